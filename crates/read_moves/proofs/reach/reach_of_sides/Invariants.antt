use Rattle.go_base.specs.Views.{neighbours_of}
use Rattle.trial_board.proofs.WalkLemmas.{Walked}
use Rattle.read_moves.specs.Reaches.{HasReach}
use Rattle.read_moves.proofs.TellLemmas.{IsSoFar, IsEmptySide, Nowhere}
use Rattle.read_moves.proofs.reach.reach_of_sides.Given as goal

-- the empty neighbours at the sides so far are told
abbrev pub invariant-loop-side : goal.invariant-loop-side
invariant-loop-side g l = Walked g.L.Look.shows g.L.Look.seen (λ s here. neighbours_of s l.l)
    (λ s here. HasReach (IsSoFar Nowhere (IsEmptySide s here.cells l.l) l.side) l.reach) l.fn.board l.board
