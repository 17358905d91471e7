pub mod Acts
pub mod Ending
pub mod Loading
pub mod Looks
pub mod Reloaded
pub mod Replies
pub mod Seen
