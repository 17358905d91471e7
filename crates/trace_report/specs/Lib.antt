pub mod Image
pub mod LongerRuns
pub mod Outcome
pub mod Report
pub mod Run
