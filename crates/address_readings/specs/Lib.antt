pub mod Readings
pub mod Places
