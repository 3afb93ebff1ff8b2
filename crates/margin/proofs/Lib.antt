pub mod Enclosing
pub mod Widening
pub mod Flight
