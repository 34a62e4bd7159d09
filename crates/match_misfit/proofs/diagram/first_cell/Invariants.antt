use Rattle.std.proofs.Common.{◌≡◌, ℕ, ◌<◌, None, pos, ◌-ℤ◌}
use Rattle.std.specs.List.{find}
use Rattle.match_misfit.specs.Misfits.{is_misfit, cells_of_row}
use Rattle.match_misfit.proofs.diagram.first_cell.Given as goal

-- the rows so far fit
abbrev pub invariant-loop-i : goal.invariant-loop-i
invariant-loop-i l = (k : ℕ) → k < l.i
    → find (is_misfit l.p l.position l.friend l.t l.at) (cells_of_row l.p (pos k -ℤ pos 1)) ≡ None
