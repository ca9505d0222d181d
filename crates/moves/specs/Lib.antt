-- Kinds 12 to 15, 17 and 18 by their words.
pub mod Transfer
