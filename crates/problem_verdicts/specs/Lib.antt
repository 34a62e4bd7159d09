pub mod MoveSets
pub mod Verdicts
pub mod Questions
pub mod SureQuestions
