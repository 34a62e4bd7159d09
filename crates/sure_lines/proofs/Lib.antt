pub mod CommandReplies
pub mod MoveAnswers
pub mod FileAnswers
pub mod StoneAnswers
pub mod LineAnswers
pub mod ProofAnswers
pub mod TakenLines
pub mod SessionLemmas
