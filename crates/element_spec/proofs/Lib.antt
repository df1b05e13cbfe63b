pub mod ByKind
pub mod EncodeRows
pub mod ElementStores
