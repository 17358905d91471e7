pub mod HeapLaws
