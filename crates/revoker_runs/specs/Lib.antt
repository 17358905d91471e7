pub mod Answer
pub mod Plan
pub mod Told
pub mod Ways
