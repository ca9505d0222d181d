-- The definitions that the contracts cite, in the order of document 01: "State and numbers", then "Accumulator rules".
pub mod Mode
pub mod Status
pub mod Product
pub mod Limit
pub mod Shift
pub mod Store
