pub mod Decision
pub mod Followed
pub mod KeptSizes
pub mod Passes
pub mod Revoked
pub mod RevokerDecision
pub mod RevokerKept
pub mod Storage
