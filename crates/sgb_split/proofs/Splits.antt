-- The split of a list, and lists that are grouped for a test.
pub mod Split
pub mod Joined
pub mod FirstPiece
pub mod Grouped
pub mod Lens
