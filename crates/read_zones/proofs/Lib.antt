pub mod SetLemmas
pub mod SeenLemmas
pub mod TreeLemmas
pub mod UnreadLemmas
pub mod AnswerLemmas
pub mod TakingLemmas
pub mod BackLemmas
