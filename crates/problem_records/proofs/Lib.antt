pub mod OnBoard
pub mod Values
pub mod Stones
pub mod Outcomes
