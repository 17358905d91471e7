pub mod PaintLaws
