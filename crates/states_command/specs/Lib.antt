pub mod Answer
