pub mod AddLemmas
pub mod ApproachLemmas
pub mod SideLemmas
pub mod LastLemmas
pub mod NearLemmas
