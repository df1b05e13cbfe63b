pub mod AnswerLines
pub mod Pieces
pub mod Said
