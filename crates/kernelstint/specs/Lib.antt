pub mod Calls
pub mod Codes
pub mod Crossing
pub mod Handle
pub mod Machines
