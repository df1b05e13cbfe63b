pub mod LaidTexts
pub mod TextAnswers
