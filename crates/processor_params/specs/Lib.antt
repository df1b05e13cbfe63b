pub mod Take
pub mod Header
