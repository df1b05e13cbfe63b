pub mod ReaderAnswers
pub mod Elements
pub mod Spelling
