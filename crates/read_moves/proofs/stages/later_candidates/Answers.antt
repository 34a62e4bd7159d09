-- In the stated tree the later candidates are those by the liberties.
use Rattle.std.proofs.Common.{arith}
use Rattle.read_rules.proofs.StageLemmas.{later_stated}
use Rattle.read_moves.proofs.stages.later_candidates.Goals as goal

-- the stated tree has no others
pub returns-in-Stated-clause-over : goal.returns-in-Stated-clause-over
returns-in-Stated-clause-over g c = grind (arith, later_stated)
