pub mod Answering
pub mod Reaches
pub mod SheetFacts
pub mod Soundness
pub mod Standing
