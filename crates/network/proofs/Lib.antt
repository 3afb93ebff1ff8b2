pub mod First
pub mod Drafts
pub mod Rules
pub mod Counts
pub mod Points
pub mod Readiness
pub mod Standing
