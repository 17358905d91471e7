pub mod HeadLaws
pub mod PlanLaws
