pub mod Answer
pub mod Beside
pub mod Text
