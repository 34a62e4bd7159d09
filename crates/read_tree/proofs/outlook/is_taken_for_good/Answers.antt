-- A stone beside the target that was found is one of its string.
use Rattle.std.proofs.Common.{◌∙◌, sym, ap}
use Rattle.go_base.specs.Views.{alone}
use Rattle.trial_board.specs.Trials.{after}
use Rattle.trial_board.proofs.AfterLemmas.{size-after}
use Rattle.read_rules.proofs.AreaLemmas.{target_on}
use Rattle.std.proofs.Common.{◌≡◌, true, arith}
use Rattle.std.specs.FinSet as set
use Rattle.read_tree.proofs.TakingLemmas.{when_some, stone_beside, near_sides}
use Rattle.read_tree.proofs.outlook.is_taken_for_good.Goals as goal

-- in the stated tree nothing is taken back
pub returns-then-not-is_wider-clause-over : goal.returns-then-not-is_wider-clause-over
returns-then-not-is_wider-clause-over g c = grind arith

-- a stone of the defender is beside the target
pub returns-clause-over : goal.returns-clause-over
returns-clause-over g c = λ pos a yes.
    let here = after pos c.args.board.now.moves in
    let found = when_some c.first_from.result _ (λ q. set.contains c.add_sides.new.found q ≡ true) (λ q h. h.2)
    c.first_from.ensures.some (sym c.is_some.ensures ∙ yes) in
    stone_beside c.args.turn here pos.size found.0 c.new-own.result c.add_sides.new.found c.stone_of.result
    (size-after pos c.args.board.now.moves) c.new-own.ensures c.stone_of.ensures
    (c.add_sides.ensures.over pos a found.0) found.1

-- the neighbours of the target lie in its neighbourhood
pub returns-clause-near : goal.returns-clause-near
returns-clause-near g c = grind (arith, target_on, near_sides)
