mod AnswerLaws
mod BesideLaws
