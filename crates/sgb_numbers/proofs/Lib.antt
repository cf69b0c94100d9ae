pub mod Pairs
pub mod Reversed
pub mod Bits
mod Sixteen
mod SignedBits
pub mod Asked
pub mod Scanned
pub mod Vectors
