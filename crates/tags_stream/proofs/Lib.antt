pub mod Cuts
pub mod Long
pub mod Onward
