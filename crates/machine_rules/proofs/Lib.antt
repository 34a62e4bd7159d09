pub mod CommandQuestions
pub mod QuietHelpers
pub mod Soundness
pub mod WordLines
