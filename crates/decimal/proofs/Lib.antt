pub mod DecimalBack
pub mod Decimals
pub mod Signs
