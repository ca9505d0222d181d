-- Worked examples first, so that a wrong definition shows as a wrong number; then the laws on whole numbers, each once, for the proofs of every
-- crate above.
pub mod Examples
pub mod Whole
pub mod Fitting
pub mod Ranges
pub mod Low
pub mod Masks
pub mod Modulo
