pub mod Headers
pub mod Joined
pub mod Joins
pub mod Order
pub mod Runs
pub mod Waiting
