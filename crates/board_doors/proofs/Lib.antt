pub mod DepthNumbers
pub mod MoveNumbers
pub mod PrintedProofs
