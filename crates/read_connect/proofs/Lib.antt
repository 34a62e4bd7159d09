pub mod StandLemmas
pub mod StandingNodes
pub mod StageLemmas
pub mod TurnLemmas
pub mod WalkLemmas
pub mod ReadingLemmas
