pub mod Parts
pub mod Sources
