pub mod Pieces
pub mod FeedSteps
