pub mod Columns
pub mod Decimals
pub mod Records
pub mod RecordsLeft
pub mod Rows
pub mod Said
pub mod Tables
pub mod Written
