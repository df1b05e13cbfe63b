pub mod ElementsTold
pub mod RefusalNumbers
pub mod RequestRows
pub mod Supplied
