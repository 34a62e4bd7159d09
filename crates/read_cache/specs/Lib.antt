pub mod Kept
pub mod Places
pub mod Variants
pub mod Keeping
pub mod Digits
