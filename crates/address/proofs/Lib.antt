-- Worked examples first, so that a wrong definition shows as a wrong number; then the laws, in the order of specs/.
pub mod Examples
pub mod Words
pub mod Regions
pub mod Traps
pub mod Steps
pub mod Widths
pub mod Reversals
pub mod Fields
pub mod Rounds
