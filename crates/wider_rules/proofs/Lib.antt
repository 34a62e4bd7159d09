pub mod FurtherLaws
pub mod FurtherPlaces
pub mod GatherLemmas
pub mod StringLemmas
pub mod SetLemmas
