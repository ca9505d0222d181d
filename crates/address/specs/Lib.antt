-- Section "Addresses" of document 01, in its order: words and their addresses, regions and traps 1 and 2, sums and steps, bit-reversed steps; then what a round of
-- bit-reversed steps comes to, for the reader.
pub mod Word
pub mod Trap
pub mod Region
pub mod Step
pub mod Reversal
pub mod Round
