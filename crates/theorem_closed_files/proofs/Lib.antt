pub mod Avoided
pub mod ClosedFiles
pub mod Calls
pub mod WhoAvoids
