use Rattle.trial_board.proofs.WalkLemmas.{Walked}
use Rattle.trial_board.specs.Overlays.{neighbourhood_twice}
use Rattle.read_rules.specs.Candidates.{IsEmptyNeighbour}
use Rattle.read_moves.specs.Reaches.{HasReach}
use Rattle.read_moves.proofs.TellLemmas.{IsSoFar, IsLibertyAtSide}
use Rattle.read_moves.proofs.reach.reach_of.Given as goal

-- the empty sides and what the strings at the sides so far reach are told
abbrev pub invariant-loop-side : goal.invariant-loop-side
invariant-loop-side g l = Walked g.L.Look.shows g.L.Look.seen (λ s here. neighbourhood_twice s here.cells l.l)
    (λ s here. HasReach (IsSoFar (IsEmptyNeighbour s here.cells l.l) (IsLibertyAtSide s here.cells l.c l.l) l.side)
    l.reach) l.fn.board l.board
