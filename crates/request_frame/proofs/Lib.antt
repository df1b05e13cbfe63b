pub mod FieldsTold
pub mod Laid
