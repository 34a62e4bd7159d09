use Rattle.go_base.specs.Views.{neighbours_of}
use Rattle.trial_board.proofs.WalkLemmas.{Walked}
use Rattle.wider_moves.proofs.SideLemmas.{AddsSides}
use Rattle.wider_moves.proofs.sides.add_sides.Given as goal

-- the neighbours at the sides so far came where the cell stands there
abbrev pub invariant-loop-side : goal.invariant-loop-side
invariant-loop-side g l = Walked g.L.Look.shows g.L.Look.seen (λ s here. neighbours_of s l.l)
    (λ s here. AddsSides s here.cells l.cell l.l l.side l.fn.found l.found) l.fn.board l.board
