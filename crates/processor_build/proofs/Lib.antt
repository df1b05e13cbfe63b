pub mod Judging
pub mod Finishing
