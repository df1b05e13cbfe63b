pub mod DecodeAnswers
pub mod RoundTrip
