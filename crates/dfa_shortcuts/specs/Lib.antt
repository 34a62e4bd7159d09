pub mod Shortcuts
pub mod Openings
