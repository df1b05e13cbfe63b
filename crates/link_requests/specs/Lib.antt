pub mod Kinds
pub mod RequestRecords
