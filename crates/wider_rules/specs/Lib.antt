pub mod Cramped
pub mod Further
pub mod FurtherInWords
pub mod FurtherAreas
pub mod Strings
