pub mod DirectoryIs
pub mod Storing
pub mod DirectoryFilled
