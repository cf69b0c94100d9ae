pub mod Columns
pub mod LongGroups
pub mod LongRuns
pub mod Runs
pub mod Tens
pub mod Totals
pub mod Words
