pub mod Amounts
pub mod Groups
pub mod Input
pub mod Output
pub mod Runs
pub mod Sums
