-- The lines that are printed.
pub mod Line
