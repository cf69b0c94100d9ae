pub mod AsciiCopies
pub mod LastCharacter
pub mod Places
pub mod Scanned
pub mod Cuts
pub mod Queue
