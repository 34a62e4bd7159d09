use Rattle.std.proofs.Common.{◌≡◌, ◌<◌, ℕ, true, Some}
use Rattle.go_rules.specs.Position.{stone_of}
use Rattle.go_rules.specs.Strings.{cell_at, same_cell}
use Rattle.go_base.specs.Sides.{neighbour_at}
use Rattle.read_proof.proofs.taking_back.is_walled_in.Given as goal

-- each side so far holds a stone of the colour
abbrev pub invariant-loop-side : goal.invariant-loop-side
invariant-loop-side l = (k q : ℕ) → k < l.side → neighbour_at l.pos.size l.t k ≡ Some q
    → same_cell (cell_at l.pos.cells q) (stone_of l.c) ≡ true
