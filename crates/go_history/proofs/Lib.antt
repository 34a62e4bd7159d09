pub mod GameLemmas
pub mod HeldGames
pub mod RefusedMoves
