pub mod BaseLaws
pub mod BitLaws
pub mod ClearedRegisters
pub mod PackedLaws
pub mod PageLaws
pub mod PageTakenLaws
pub mod TagLaws
pub mod TakenLaws
