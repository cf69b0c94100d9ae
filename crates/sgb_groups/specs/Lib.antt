pub mod Gives
pub mod Shards
pub mod Boundaries
