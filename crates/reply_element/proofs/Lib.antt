pub mod Bits
pub mod Elements
