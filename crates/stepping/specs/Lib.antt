-- What one step over an operation's words leaves.
pub mod Turned
