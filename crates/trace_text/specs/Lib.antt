pub mod Command
pub mod Fault
pub mod Grammar
pub mod Heap
pub mod Lines
pub mod Marked
pub mod Reading
