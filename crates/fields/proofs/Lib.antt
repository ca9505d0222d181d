-- Laws of reads, operands, stepped pointers and accumulators by an operation's words.
pub mod Accesses
pub mod Accumulators
pub mod Operands
pub mod Pointers
pub mod Targets
