pub mod Books
pub mod Ledger
pub mod Runs
pub mod Reach
pub mod Sound
