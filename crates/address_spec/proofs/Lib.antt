pub mod Forms
pub mod Ranges
pub mod PhrasesLeave
pub mod SpellingRows
pub mod Unchanged
pub mod FileLetters
