pub mod Answer
pub mod Text
pub mod Hex
