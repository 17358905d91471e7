pub mod ReplyText
pub mod RevokerLines
pub mod Asking
pub mod Fault
pub mod Log
