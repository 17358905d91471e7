pub mod ReplyText
pub mod Display
pub mod HexadecimalLaws
pub mod Shown
pub mod ShortText
pub mod WordLine
pub mod Kind
