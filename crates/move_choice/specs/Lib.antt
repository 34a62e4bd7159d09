pub mod Worth
pub mod Choice
