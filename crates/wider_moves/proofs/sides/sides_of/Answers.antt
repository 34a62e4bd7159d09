-- The neighbours were added to none.
use Rattle.std.proofs.Common.{◌∙◌, arith}
use Rattle.wider_moves.proofs.AddLemmas.{added_to_none}
use Rattle.wider_moves.proofs.SideLemmas.{sides_close}
use Rattle.wider_moves.proofs.sides.sides_of.Goals as goal

-- what came are the neighbours
pub returns-clause-over : goal.returns-clause-over
returns-clause-over g c = λ pos a p.
    c.add_sides_of.ensures.over pos a p ∙ added_to_none c.new-found.result p _ c.new-found.ensures

-- the neighbours of points are in their neighbourhood
pub returns-clause-near : goal.returns-clause-near
returns-clause-near g c = grind (arith, sides_close)
