pub mod PartSteps
pub mod PartValues
pub mod ValuedParts
