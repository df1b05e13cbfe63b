pub mod CursorAnswers
