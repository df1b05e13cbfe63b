pub mod Exported
pub mod OneRequest
