use Rattle.std.proofs.Common.{refl, arith}
use Rattle.go_base.proofs.PointNeighbourhoods.{close_sides}
use Rattle.go_base.proofs.LookSequences.{Looks-more, Looks-within}
use Rattle.go_base.proofs.WithoutLiberty.{liberty_there}
use Rattle.go_base.proofs.without_liberty.string_without_liberty.Goals as goal

-- a stone with an empty neighbour has a liberty
pub returns-then-has_empty_side-clause-over : goal.returns-then-has_empty_side-clause-over
returns-then-has_empty_side-clause-over g c = grind (arith, liberty_there)

-- only its sides were looked at
pub returns-then-has_empty_side-clause-near : goal.returns-then-has_empty_side-clause-near
returns-then-has_empty_side-clause-near g c = λ pos a.
    g.met.V.View.asks_within _ _ _ _ c.has_empty_side.ensures.looks.asked
    (λ r h. close_sides (g.V.View.rows c.args.board.now) (g.V.View.cells c.args.board.now pos) c.args.p r c.requires h)

-- the sides and then the string were looked at, and nothing was written
pub returns-clause-looks : goal.returns-clause-looks
returns-clause-looks g c = Looks-more g.met.V.View.asks_more
    (Looks-within g.met.V.View.asks_within c.has_empty_side.ensures.looks (λ q h. refl))
    c.searched_without_liberty.ensures.looks

-- what the search tells is so of the board as it was
pub returns-clause-over : goal.returns-clause-over
returns-clause-over g c = λ pos a. rw (
  g.met.V.View.asks_rows _ _ _ c.has_empty_side.ensures.looks.asked,
  c.has_empty_side.ensures.looks.same pos,
) at (c.searched_without_liberty.ensures.over pos a)

-- only the string and its neighbours were looked at
pub returns-clause-near : goal.returns-clause-near
returns-clause-near g c = λ pos a.
    g.met.V.View.asks_more _ _ _ _ (g.met.V.View.asks_within _ _ _ _ c.has_empty_side.ensures.looks.asked
    (λ r h. close_sides (g.V.View.rows c.args.board.now) (g.V.View.cells c.args.board.now pos) c.args.p r c.requires h))
    (rw (
      g.met.V.View.asks_rows _ _ _ c.has_empty_side.ensures.looks.asked,
      c.has_empty_side.ensures.looks.same pos,
    ) at (c.searched_without_liberty.ensures.near pos a))
