pub mod Labels
pub mod Captures
pub mod ConstraintPoints
pub mod NoReason
pub mod InWords
