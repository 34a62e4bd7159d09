pub mod AllMoves
pub mod FewestPlies
pub mod Refutation
