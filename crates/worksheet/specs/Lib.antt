pub mod Stages
pub mod Thin
