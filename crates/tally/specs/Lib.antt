-- Document 01's `tally`.
pub mod Tally
