pub mod Laid
pub mod Lines
pub mod Departing
pub mod Bounds
pub mod Held
pub mod ThinLines
pub mod WorkedOut
