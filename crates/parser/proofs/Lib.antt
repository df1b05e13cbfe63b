pub mod PartReaders
pub mod DecimalNumbers
