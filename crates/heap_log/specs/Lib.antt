pub mod Counting
pub mod CountingLaws
pub mod Judged
pub mod Origin
pub mod Due
