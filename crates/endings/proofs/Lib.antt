pub mod NameExamples
pub mod Names
