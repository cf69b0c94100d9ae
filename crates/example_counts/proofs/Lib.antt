pub mod GroupLens
pub mod KeptTotals
