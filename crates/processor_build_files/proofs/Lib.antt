pub mod FileBytes
pub mod Refusing
pub mod ByNumber
