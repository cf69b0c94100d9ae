-- Runs of questions, and when they may be asked.
pub mod Runs
pub mod Calls
pub mod Closures
pub mod OnElements
pub mod Counting
pub mod Equality
