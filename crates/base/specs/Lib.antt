pub mod Chars
pub mod Masks
pub mod Numbers
pub mod Outcome
pub mod Put
pub mod Refusals
