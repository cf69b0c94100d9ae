pub mod Boundaries
pub mod Cuts
pub mod CutsMut
pub mod Outward
pub mod Parts
pub mod ShardCuts
