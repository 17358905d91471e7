pub mod Rows
pub mod Totals
pub mod Views
pub mod Steps
