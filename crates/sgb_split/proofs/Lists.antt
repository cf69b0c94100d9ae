-- Lists, by their elements and places.
pub mod AllByRecursion
pub mod Apart
pub mod Between
pub mod Contained
pub mod Ends
pub mod Filters
pub mod Order
pub mod Pairs
pub mod Places
pub mod Ranges
