use Rattle.trial_board.proofs.WalkLemmas.{Walked}
use Rattle.trial_board.specs.Overlays.{neighbourhood_twice}
use Rattle.read_moves.proofs.LiveLemmas.{LiveAtSides}
use Rattle.read_moves.proofs.quiet.is_quiet.Given as goal

-- the enemy strings at the sides so far live
abbrev pub invariant-loop-side : goal.invariant-loop-side
invariant-loop-side g l = Walked g.L.Look.shows g.L.Look.seen (λ s here. neighbourhood_twice s here.cells l.l)
    (λ s here. LiveAtSides s here.cells l.c l.l l.side) l.fn.board l.board
