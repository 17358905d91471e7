mod BlockLaws
mod FitLaws
mod FlawLaws
mod GuardLaws
mod LineLaws
mod OnceLaws
mod PlaceLaws
mod TurnLaws
