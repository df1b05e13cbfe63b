pub mod DottedAnswers
