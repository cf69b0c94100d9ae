pub mod Searching
pub mod Search
pub mod Ranges
pub mod Matches
