pub mod Copies
pub mod Texts
pub mod TextsMut
