pub mod HeaderExamples
pub mod Halves
pub mod Registers
