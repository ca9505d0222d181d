-- "Stepping and ending": the endings of a run; their names, numbers and codes.
pub mod Ending
