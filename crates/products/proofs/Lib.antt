-- Laws of kinds 1 to 7 by an operation's words: ranges, arrivals, the write-back, the whole work, pairs.
pub mod Arrivals
pub mod Fetches
pub mod Pairs
pub mod Ranges
pub mod Results
pub mod WriteBacks
pub mod Works
