pub mod HexBack
pub mod Exact
pub mod Pairs
pub mod Splits
