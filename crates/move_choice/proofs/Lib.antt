pub mod ShortNumbers
pub mod Worths
pub mod Preferring
pub mod Choices
