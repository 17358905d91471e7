pub mod MakingLaws
pub mod PassLaws
pub mod TaggedLaws
