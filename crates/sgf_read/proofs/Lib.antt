pub mod Sizes
pub mod TokenLemmas
pub mod ValueUnits
pub mod Walks
pub mod Fills
pub mod Stones
pub mod GameSteps
pub mod Leads
