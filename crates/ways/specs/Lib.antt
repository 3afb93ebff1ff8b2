pub mod Routes
pub mod Ends
pub mod Facts
pub mod Walks
pub mod Laws
