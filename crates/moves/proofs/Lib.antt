-- What kinds 8 to 11 and 12 to 18 leave, by their words.
pub mod Arithmetics
pub mod Transfers
