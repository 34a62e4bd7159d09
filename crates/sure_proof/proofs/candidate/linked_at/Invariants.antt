use Rattle.std.proofs.Common.{◌≡◌, ◌<◌, ◌&&◌, ℕ, false}
use Rattle.go_rules.specs.Strings.{is_liberty}
use Rattle.wider_rules.specs.Further.{is_linked, few_of_parted}
use Rattle.sure_proof.proofs.candidate.linked_at.Given as goal

-- no point so far is such a stone
abbrev pub invariant-loop-q : goal.invariant-loop-q
invariant-loop-q l = (k : ℕ) → k < l.q
    → (is_linked few_of_parted l.pos.size l.pos.cells l.target k && is_liberty l.pos.size l.pos.cells k l.p) ≡ false
