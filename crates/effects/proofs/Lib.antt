pub mod WorkExamples
pub mod Traps
pub mod Sums
pub mod Alike
