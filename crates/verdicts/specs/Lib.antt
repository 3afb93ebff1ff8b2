pub mod Verdicts
pub mod Numbers
pub mod Texts
pub mod Laws
