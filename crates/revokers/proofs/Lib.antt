pub mod DirtyLaws
pub mod EndingLaws
pub mod ListLaws
pub mod LoadLaws
pub mod SeenLaws
