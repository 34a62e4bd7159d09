pub mod OneMoreLine
pub mod TableLemmas
pub mod Walk
pub mod BlockTexts
pub mod WholeBlocks
pub mod MainDiagrams
pub mod StarPlaces
pub mod ConstraintDiagrams
pub mod EntryLemmas
mod Samples
