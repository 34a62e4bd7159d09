pub mod SureSteps
pub mod SureCode
pub mod LossLemmas
