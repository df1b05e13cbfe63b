pub mod Family
pub mod ParamsLeave
pub mod WordSteps
pub mod FunctionQuery
pub mod QueryOf
