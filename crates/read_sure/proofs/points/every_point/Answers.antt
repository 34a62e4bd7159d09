-- The loop over the points of a board.
use Rattle.std.proofs.Common.{◌≡◌, ◌≢◌, ◌∙◌, ◌+◌, ℕ, nat_lt, ap, sym, arith}
use Rattle.std.specs.FinSet as set
use Rattle.std.specs.Ordering.{nat_cmp}
use Rattle.std.proofs.lemmas.Bool.{cases_eq, cases_lt, lt-ltb, le-ltb, eq-eqb, ne_eqb}
use Rattle.go_rules.proofs.Sets.{contains-insert_nat}
use Rattle.read_sure.proofs.points.every_point.Goals as goal

-- no point is below the first
pub points-init : goal.points-init
points-init c = λ q.
    ap (λ s. set.contains s q) c.new-points.ensures ∙ set.contains-empty nat_cmp q ∙ sym (le-ltb q 0 (omega arith))

-- a point below the next one is the one that came or below it
next_below : (q p : ℕ) → q ≢ p → nat_lt q p ≡ nat_lt q (p + 1)
next_below q p ne = grind (arith, cases_lt, lt-ltb, le-ltb)

-- the next point came
pub points-preserved : goal.points-preserved
points-preserved c = grind (arith, contains-insert_nat, cases_eq, eq-eqb, lt-ltb, ne_eqb, next_below)
