-- What the proofs of the demonstration share.
pub mod Drawn
