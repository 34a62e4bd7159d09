use Rattle.std.proofs.Common.{ap, sym, ◌∙◌, arith}
use Rattle.std.specs.FinSet as set
use Rattle.go_base.proofs.Lowest.{not_member}
use Rattle.go_base.proofs.Marks.{contains-small, no_members}
use Rattle.go_base.proofs.points.PointSet.take_first.Goals as goal

-- the point that was found is a member, so it can be taken out
pub take-requires-clause-member : goal.take-requires-clause-member
take-requires-clause-member c = grind (arith, contains-small)

-- the point that was found was a member, and was taken out
pub returns-clause-some : goal.returns-clause-some
returns-clause-some c = grind (arith, contains-small)

-- no point before it is marked
pub returns-clause-least : goal.returns-clause-least
returns-clause-least c = grind (arith, not_member)

-- if no point is marked, there is no member
pub returns-in_default-clause-none : goal.returns-in_default-clause-none
returns-in_default-clause-none c = no_members c.args.self.now (λ q.
    ap (λ s. set.contains s q) (sym c.self.view_is) ∙ not_member c.self.inside.bits q (c.in_default.ensures.none q))
