-- Lists of calls on a queue of groups.
pub mod Chains
pub mod Yields
pub mod GroupsToCome
pub mod FamiliesAgree
pub mod Offsets
pub mod Keyed
pub mod KeyedOffsets
pub mod Dedup
pub mod Chunks
pub mod Greatest
