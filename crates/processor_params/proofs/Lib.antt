pub mod ParamsLeave
pub mod Taking
pub mod HeaderReader
