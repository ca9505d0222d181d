-- Worked examples; the laws of exact sums and of exact even after overflow; the calls.
pub mod CallExamples
pub mod Agree
pub mod Split
pub mod Stored
pub mod Sums
pub mod SameWorks
pub mod SameSteps
pub mod Overflow
pub mod Onward
pub mod Steps
pub mod Endings
pub mod Calls
pub mod Windows
pub mod OneStep
pub mod LastOnes
