mod AnswerLaws
mod RunLaws
