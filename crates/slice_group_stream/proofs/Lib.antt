pub mod Ends
pub mod FoldedParts
pub mod JoinedParts
pub mod States
pub mod StreamParts
pub mod OverBlocks
pub mod ClosedGroups
