use Rattle.trial_board.proofs.BoundaryLemmas.{is_boundary-is}
use Rattle.trial_board.proofs.laws.boundaries_are_in_words.Goals as goal

-- the test of the boundary is the fact
pub returns : goal.returns
returns c = record { boundary = is_boundary-is }
