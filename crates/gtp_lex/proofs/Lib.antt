pub mod HeldLemmas
pub mod FeedLemmas
pub mod GivenLemmas
