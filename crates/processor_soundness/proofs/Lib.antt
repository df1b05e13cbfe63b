pub mod TypeText
pub mod DatalogRoom
pub mod Surveyed
