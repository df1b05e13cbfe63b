pub mod OfKind
pub mod RequestAnswers
