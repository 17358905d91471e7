pub mod Bases
pub mod Cells
pub mod Extent
pub mod Laws
pub mod Packed
pub mod Tags
