pub mod FollowLaws
pub mod NewBlock
pub mod OnePlace
pub mod OneStep
pub mod RevokedLaws
pub mod SafeSteps
pub mod UnusedLaws
