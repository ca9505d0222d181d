-- The machine in the order of document 01: "Accumulator rules" (writes), "Stepping and ending" (loops, control, step). Single is one step as a call.
pub mod Write
pub mod Loops
pub mod Control
pub mod Step
pub mod Single
