-- Worked examples first, so that a wrong definition shows as a wrong number; then the laws.
pub mod Examples
pub mod Sizes
pub mod Writing
pub mod Rounding
