pub mod Games
pub mod Histories
pub mod Taken
