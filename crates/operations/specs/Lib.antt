pub mod Bytes
pub mod Encode
pub mod Listed
pub mod Decode
