use Rattle.std.proofs.Common.{◌≡◌, ℕ, ◌<◌, true}
use Rattle.match_rules.specs.Fits.{cell_fits}
use Rattle.match_misfit.specs.Misfits.{cell_with}
use Rattle.match_misfit.proofs.diagram.misfit_in_row.Given as goal

-- the cells so far fit
abbrev pub invariant-loop-j : goal.invariant-loop-j
invariant-loop-j l = (k : ℕ) → k < l.j → cell_fits l.p l.position l.friend l.t l.at (cell_with l.i k) ≡ true
