pub mod Network
