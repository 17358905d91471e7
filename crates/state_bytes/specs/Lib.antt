pub mod Reading
pub mod Replay
pub mod State
pub mod Text
pub mod Writing
