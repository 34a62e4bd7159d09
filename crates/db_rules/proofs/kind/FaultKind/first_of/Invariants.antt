use Rattle.std.proofs.Common.{◌≡◌, drop}
use Rattle.db_rules.specs.Kinds.{first_of}
use Rattle.db_rules.proofs.kind.FaultKind.first_of.Given as goal

-- the tests that are left decide, since none before them passes
abbrev pub invariant-loop-fits : goal.invariant-loop-fits
invariant-loop-fits l = first_of (drop l.fits-index l.tests) ≡ first_of l.tests
