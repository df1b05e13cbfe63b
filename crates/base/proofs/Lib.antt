pub mod Chars
pub mod Masks
pub mod Numbers
pub mod Parts
pub mod Put
pub mod EveryPlace
pub mod Unmatched
pub mod RefusalNumbers
