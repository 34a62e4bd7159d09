pub mod FreshReadings
pub mod ConstraintView
pub mod Reasons
pub mod FirstReasons
