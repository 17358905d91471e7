pub mod Consistent
pub mod Painting
pub mod Rows
pub mod Stored
pub mod Table
