pub mod Replying
pub mod Questions
pub mod Refines
