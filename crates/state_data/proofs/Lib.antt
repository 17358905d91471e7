pub mod AfterLaws
pub mod BlockLaws
pub mod Did
pub mod MemoryLaws
pub mod RecordLaws
pub mod RegisterLaws
