pub mod AsOf
pub mod Names
