pub mod Steps
pub mod Segment
pub mod CurveLaws
pub mod Kept
pub mod Ranges
pub mod Readings
