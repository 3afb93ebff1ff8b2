pub mod Sums
pub mod Fractions
pub mod Worked
pub mod Quotients
pub mod Laws
