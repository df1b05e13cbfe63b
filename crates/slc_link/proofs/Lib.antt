pub mod Calling
pub mod Coding
pub mod Contract
