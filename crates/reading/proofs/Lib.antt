pub mod Going
pub mod Figures
