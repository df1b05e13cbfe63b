pub mod FileTypes
pub mod ElementSizes
pub mod FieldNames
