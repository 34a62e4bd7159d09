use Rattle.std.proofs.Common.{◌≡◌, ℕ, ◌<◌, false, get_or, eqb}
use Rattle.gtp_cmd.specs.Komi.{point}
use Rattle.gtp_cmd.proofs.komi.point_place.Given as goal

-- no byte so far was the one sought
abbrev pub invariant-loop-i : goal.invariant-loop-i
invariant-loop-i l = (k : ℕ) → k < l.i → eqb (get_or l.text k 0) point ≡ false
