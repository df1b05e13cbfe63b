pub mod SizeAnswers
pub mod Request
