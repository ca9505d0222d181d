-- Whole numbers as document 01 uses them, for the definitions of every crate above.
pub mod Floor
pub mod Bits
pub mod Range
