use Rattle.std.proofs.Common.{◌≡◌, ◌++◌, map, take, drop}
use Rattle.dfa_core.specs.Entries.{entry_in}
use Rattle.dfa_core.proofs.table.write_kinds.Given as goal

-- the targets before were written as their entries
abbrev pub invariant-targets : goal.invariant-targets
invariant-targets l = record {
  value : l.targets ≡ map (entry_in l.kinds) (take l.target-index l.fn.targets) ++ drop l.target-index l.fn.targets;
}
