pub mod Lines
pub mod Sources
pub mod Shares
pub mod Points
pub mod Sheet
pub mod Laws
