-- What an operation comes to, in the order of document 01: "Operations" and "Addresses" (pointers, accesses, effects).
pub mod Pointer
pub mod Access
pub mod Effect
pub mod Mac
pub mod Operations
