-- The points found show the candidate.
use Rattle.std.proofs.Common.{arith}
use Rattle.sure_proof.proofs.CandidateLemmas.{rests_on_board, shown_there}
use Rattle.read_rules.proofs.CandidateLaws.{candidate_on}
use Rattle.sure_proof.proofs.candidate.candidate_shown.Goals as goal

-- the candidate is on the board
pub candidate_rests_on-requires-clause-on_board : goal.candidate_rests_on-requires-clause-on_board
candidate_rests_on-requires-clause-on_board c = grind (arith, candidate_on)

-- which has no more points than the largest
pub candidate_rests_on-requires-clause-small : goal.candidate_rests_on-requires-clause-small
candidate_rests_on-requires-clause-small c = grind (arith, candidate_on)

-- on every position that agrees on them
pub returns-clause-shown : goal.returns-clause-shown
returns-clause-shown c = grind (arith, shown_there)

-- and they are on the board
pub returns-clause-on_board : goal.returns-clause-on_board
returns-clause-on_board c = grind (arith, rests_on_board, candidate_on)
