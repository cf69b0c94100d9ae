-- Searches among places, and binary and exponential calls.
pub mod Digits
pub mod Outward
pub mod AtPlaces
pub mod Boundaries
pub mod Halving
pub mod Galloping
pub mod SearchRuns
pub mod Partitions
pub mod RangePlaces
pub mod SearchQueue
pub mod PartitionPoint
pub mod Ascending
pub mod AscendingGroups
pub mod BeforePlace
