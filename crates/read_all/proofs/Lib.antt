pub mod FoundMoves
pub mod AttainLemmas
pub mod ReplyLemmas
