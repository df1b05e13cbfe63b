pub mod Decode
pub mod Encode
