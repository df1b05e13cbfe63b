pub mod Access
pub mod OldestEntry
pub mod Obeying
pub mod Responding
