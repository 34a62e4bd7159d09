pub mod Each
pub mod FirstEntries
pub mod Places
pub mod LastingVariants
pub mod MapEntries
pub mod CacheSoundness
pub mod StandingVariants
pub mod KeepingLemmas
