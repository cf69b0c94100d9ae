-- Linear calls.
pub mod LinearPairs
pub mod LinearQueue
pub mod Scanning
pub mod ScannedParts
