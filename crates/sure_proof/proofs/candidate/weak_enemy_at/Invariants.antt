use Rattle.std.proofs.Common.{◌≡◌, ◌<◌, ◌&&◌, ℕ, false}
use Rattle.go_rules.specs.Strings.{is_liberty}
use Rattle.wider_rules.specs.Further.{is_weak_enemy}
use Rattle.sure_proof.proofs.candidate.weak_enemy_at.Given as goal

-- no point so far is such an enemy
abbrev pub invariant-loop-q : goal.invariant-loop-q
invariant-loop-q l = (k : ℕ) → k < l.q
    → (is_weak_enemy l.most l.pos.size l.pos.cells l.target k && is_liberty l.pos.size l.pos.cells k l.p) ≡ false
