use Rattle.std.proofs.Common.{◌≡◌, ◌-◌, ◌≤◌}
use Rattle.go_rules.specs.Below.{set_below}
use Rattle.go_base.specs.AmongFacts.{is_fact_at}
use Rattle.go_base.proofs.facts.Facts.points.Given as goal

-- the points below the next one have come
abbrev pub invariant-loop-q : goal.invariant-loop-q
invariant-loop-q l = record {
  within : l.next ≤ l.end;
  come : l.points ≡ set_below l.next (is_fact_at l.self);
}

-- how many points are left
abbrev pub decreases-loop-q : goal.decreases-loop-q
decreases-loop-q l = l.end - l.next
