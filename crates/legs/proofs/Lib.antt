-- Laws of any run, of acceptance along it, of a run by its steps, of a leg.
pub mod Runs
pub mod Fits
pub mod Along
pub mod Legs
