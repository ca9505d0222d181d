pub mod Texts
mod TextExamples
