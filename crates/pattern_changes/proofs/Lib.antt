pub mod Positions
pub mod SameMatches
pub mod InWords
pub mod Advice
