use Rattle.std.proofs.Common.{◌∙◌, get_or, ap, arith}
use Rattle.std.proofs.Math.ListN.{set}
use Rattle.std.proofs.lemmas.List.{get_or_default}
use Rattle.std.proofs.lemmas.List.Edits.{map_over_more}
use Rattle.dfa_core.specs.Entries.{entry_in}
use Rattle.dfa_core.proofs.table.write_kinds.Goals as goal

-- one target more was written
pub targets-preserved : goal.targets-preserved
targets-preserved c = record {
  value = ap (set c.targets.targets c.targets.target-index) c.entry_of.ensures
      ∙ map_over_more (entry_in c.args.kinds.now) c.args.targets.now c.targets.targets c.targets.target-index
      (get_or c.targets.targets c.targets.target-index 0) c.targets-test.true c.targets.invariant.value
      (get_or_default c.targets.targets c.targets.target-index _ _ (omega (arith, c.targets.auto.targets)));
}
