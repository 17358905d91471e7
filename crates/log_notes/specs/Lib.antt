pub mod Beside
pub mod Hint
pub mod Notes
pub mod Part
