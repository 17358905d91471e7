mod DueLaws
mod JudgedLaws
