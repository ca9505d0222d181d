pub mod DecodeExamples
pub mod Same
pub mod Operations
