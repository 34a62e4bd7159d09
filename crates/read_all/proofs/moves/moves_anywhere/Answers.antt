-- The position shown agrees with what is seen, so its moves are these.
use Rattle.std.proofs.Common.{◌∙◌, subst, arith}
use Rattle.go_base.specs.Facts.{Agrees}
use Rattle.read_all.proofs.AttainLemmas.{some_move, moves_inside}
use Rattle.read_all.proofs.moves.moves_anywhere.Goals as goal

-- a code above 0 has a move
pub returns-clause-some : goal.returns-clause-some
returns-clause-some g c = λ some.
    some_move (c.moves_among.ensures.over (g.L.Look.shows c.args.look)
    (subst (Agrees (g.L.Look.seen c.moves_among.result.look))
    (c.moves_among.ensures.shown ∙ c.question_on-question.ensures.shown)
    (g.met.L.Look.holds c.moves_among.result.look)))
    (rw c.question_on-question.ensures.question (omega (arith, c.args.depths.some_plies))) some

-- the points are on the board
pub returns-clause-on_board : goal.returns-clause-on_board
returns-clause-on_board g c = grind (arith, moves_inside)
