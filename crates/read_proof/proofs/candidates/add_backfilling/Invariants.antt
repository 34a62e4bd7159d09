use Rattle.std.proofs.Common.{◌≡◌, ℕ, ◌&&◌, ◌||◌}
use Rattle.std.specs.FinSet as set
use Rattle.go_rules.specs.Below.{any_below}
use Rattle.read_rules.specs.Candidates.{is_left}
use Rattle.read_proof.proofs.candidates.add_backfilling.Given as goal

-- what the plays at the points so far leave came
abbrev pub invariant-loop-l : goal.invariant-loop-l
invariant-loop-l l = (p : ℕ) → set.contains l.found p ≡ (set.contains l.fn.found p || any_below l.l (λ k.
    set.contains l.liberties k && is_left l.pos l.attacker k p))
