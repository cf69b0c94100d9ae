pub mod Lists
pub mod Splits
pub mod Questions
pub mod Linear
