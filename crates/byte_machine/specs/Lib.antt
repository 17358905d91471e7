pub mod Calls
pub mod Judged
pub mod LineCalls
pub mod Records
pub mod Revoking
pub mod Runs
