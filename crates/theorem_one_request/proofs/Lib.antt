pub mod Exported
pub mod Requests
pub mod Same
