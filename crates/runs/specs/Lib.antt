-- Runs in the order of document 01: "Stepping and ending" (the run, the engine's run), "Ledger", what a program holds, demand 3 (exact sums), wish 12 (exact
-- even after overflow), the steps of a run (for wish 11), and the table A to L.
pub mod Run
pub mod Engine
pub mod Ledger
pub mod Holds
pub mod Exact
pub mod Wraps
pub mod Steps
pub mod Table
