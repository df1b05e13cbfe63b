pub mod DirectoryFills
pub mod Choosing
pub mod ByQuery
