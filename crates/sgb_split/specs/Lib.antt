pub mod Split
pub mod Questions
pub mod Judges
pub mod Calls
pub mod Linear
pub mod Seams
pub mod Counts
