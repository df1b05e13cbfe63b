pub mod Swap
pub mod Text
