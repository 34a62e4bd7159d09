-- The neighbours were added to none.
use Rattle.std.proofs.Common.{◌∙◌}
use Rattle.wider_moves.proofs.AddLemmas.{added_to_none}
use Rattle.wider_moves.proofs.approach.neighbours_with.Goals as goal

-- what came are the neighbours
pub returns-clause-over : goal.returns-clause-over
returns-clause-over g c = λ pos a q.
    c.add_sides.ensures.over pos a q ∙ added_to_none c.new-found.result q _ c.new-found.ensures
