pub mod Streams
pub use Rattle.sgb_split.specs.Split
pub use Rattle.sgb_split.specs.Judges
pub use Rattle.sgb_split.specs.Calls
pub use Rattle.sgb_split.specs.Linear
pub use Rattle.sgb_split.specs.Counts
pub use Rattle.sgb_split.specs.declared.end.End
pub mod Closing
