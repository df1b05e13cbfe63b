pub mod QuestionTexts
