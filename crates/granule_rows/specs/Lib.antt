pub mod Counts
pub mod Laws
pub mod Runs
pub mod Starts
pub mod Summaries
pub mod Tree
