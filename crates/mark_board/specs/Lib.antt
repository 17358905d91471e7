pub mod Bits
pub mod Board
pub mod Codes
pub mod Identity
pub mod Laws
pub mod Rule
