mod AnswerLaws
pub mod WordLaws
