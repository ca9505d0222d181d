-- The definition opened for them, worked examples, then laws.
pub mod Opened
pub mod CallExamples
pub mod StepExamples
pub mod Works
pub mod Order
pub mod ControlKinds
pub mod Words
pub mod Places
pub mod Traps
pub mod Nested
pub mod Around
pub mod Stands
pub mod Ends
pub mod Calls
