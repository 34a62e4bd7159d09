-- No neighbour that is empty or holds a stone of the colour was found.
use Rattle.std.proofs.Common.{◌∙◌}
use Rattle.go_base.specs.Facts.{agrees_before, AddsIn-trans}
use Rattle.trial_board.specs.Trials.{after}
use Rattle.read_tree.proofs.TakingLemmas.{walled_by, none_is}
use Rattle.read_tree.proofs.taking_back.is_walled_in.Goals as goal

-- so the point is walled in exactly if nothing was found
pub returns-clause-over : goal.returns-clause-over
returns-clause-over g c = λ pos a.
    none_is _ _ c.is_none.ensures ∙ walled_by pos.size (after pos c.args.board.now.moves).cells c.args.p c.args.defender
    c.new-free.result c.add_sides.new.found c.add_sides-2.new.found c.stone_of.result c.new-free.ensures
    c.stone_of.ensures
    (c.add_sides.ensures.over pos (agrees_before c.add_sides-2.ensures.stays.grows a))
    (rw c.add_sides.ensures.stays.moves at (c.add_sides-2.ensures.over pos a))
    c.first_from.result _ (λ x h. h.2) c.first_from.ensures.some c.first_from.ensures.none

-- the looks lie beside the point
pub returns-clause-near : goal.returns-clause-near
returns-clause-near g c = λ pos a.
    AddsIn-trans (c.add_sides.ensures.near pos (agrees_before c.add_sides-2.ensures.stays.grows a))
    (c.add_sides-2.ensures.near pos a)
