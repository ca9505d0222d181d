-- Worked examples first, with the states they start from, then laws.
pub mod Made
pub mod AcceptExamples
pub mod Around
pub mod Parts
pub mod Typing
