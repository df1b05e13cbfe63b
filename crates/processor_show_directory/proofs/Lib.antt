pub mod DirectoryBytes
pub mod Showing
