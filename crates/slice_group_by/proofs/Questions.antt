-- Runs of questions, and when they may be asked.
pub mod PairsAsked
pub mod Counting
pub mod InOrder
pub mod Adversary
