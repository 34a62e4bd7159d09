pub mod Readings
pub mod Functions
pub mod Meanings
pub mod Values
pub mod Asking
pub mod Questions
pub mod Bounds
