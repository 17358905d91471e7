pub mod ReplyWords
pub mod RevokerWords
pub mod Numerals
pub mod Texts
