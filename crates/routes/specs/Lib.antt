pub mod Worksheets
pub mod Timed
