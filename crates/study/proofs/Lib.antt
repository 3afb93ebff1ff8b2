pub mod Following
pub mod Writing
pub mod Assessments
pub mod Numbered
