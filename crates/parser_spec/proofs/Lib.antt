pub mod Held
pub mod Behind
pub mod Written
pub mod Characters
pub mod Scalars
pub mod CharacterBytes
