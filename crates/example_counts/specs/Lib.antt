pub mod Keys
pub mod Longest
pub mod Totals
