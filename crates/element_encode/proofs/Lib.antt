pub mod EncodeAnswers
