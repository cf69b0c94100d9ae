-- The pieces of a split.
pub mod Ranks
pub mod TextParts
pub mod WrittenPieces
pub mod PiecesOfLists
pub mod Adjacent
pub mod Bests
pub mod Columns
pub mod Queries
