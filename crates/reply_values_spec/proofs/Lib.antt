pub mod ValueRows
pub mod InParts
pub mod ReplyAnswers
