pub mod GrammarAnswers
pub mod ImageLaws
pub mod OneRun
pub mod SafeRuns
