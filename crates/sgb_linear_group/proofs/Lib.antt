pub mod BestOf
