pub mod Alike
pub mod Gathered
pub mod Rests
pub mod SureProofs
