-- A point is beside a member where one of its sides is a member.
use Rattle.std.proofs.Common.{◌*◌, sym, ◌∙◌, arith}
use Rattle.std.proofs.lemmas.Bool.{cases_Bool, and_from}
use Rattle.go_rules.proofs.Counts.{any_below_from, any_below_false}
use Rattle.go_rules.proofs.Links.{are_neighbours_comm}
use Rattle.go_base.proofs.SidesOfPoints.{neighbour_at-all}
use Rattle.go_base.proofs.FilteredSets.{and_false_right}
use Rattle.read_connect.proofs.sets.is_beside.Goals as goal

-- the neighbour at this side is a member
pub returns-then-has : goal.returns-then-has
returns-then-has c =
    let s = c.args.size in
    let near = c.in-Some.ensures.near in
    sym (any_below_from (s * s) _ c.in-Some.q near.0 (and_from _ _ (sym c.has.ensures ∙ c.if-has.true)
    (are_neighbours_comm s c.in-Some.q c.args.p ∙ near.2)))

-- no neighbour is
pub returns : goal.returns
returns c = grind (arith, any_below_false, cases_Bool, neighbour_at-all, are_neighbours_comm, and_false_right)
