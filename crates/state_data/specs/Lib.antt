pub mod Recording
pub mod States
