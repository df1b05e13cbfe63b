pub mod CharacterReaders
