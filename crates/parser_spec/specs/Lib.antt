pub mod DecimalNumbers
pub mod Parts
pub mod Characters
