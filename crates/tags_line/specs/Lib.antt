pub mod Answered
pub mod Lines
