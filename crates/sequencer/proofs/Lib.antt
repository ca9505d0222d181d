-- Laws of the write of an exact result, of repeat left, loops and pc, and of kinds 19 to 22 by their words.
pub mod Settles
pub mod Flows
pub mod Begins
