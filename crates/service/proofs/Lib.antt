-- Worked examples first, then laws.
pub mod Examples
pub mod Fits
pub mod Services
pub mod Calls
pub mod Schedules
