pub mod CountLaws
pub mod GatherLaws
pub mod MarkLaws
pub mod PassLaws
pub mod TaskLaws
pub mod WholeLaws
