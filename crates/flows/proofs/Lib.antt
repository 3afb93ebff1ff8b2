pub mod Shown
pub mod Leavings
pub mod PointSums
pub mod ShareParts
pub mod Arriving
