-- The loop over the bytes of a value.
use Rattle.std.proofs.Common.{◌≡◌, ◌++◌, drop, false}
use Rattle.sgf_rules.specs.Tokens.{said}
use Rattle.problem_records.proofs.node.said.Given as goal

-- what was taken so far, and then what the rest says, is what the value says
abbrev pub invariant-loop-b : goal.invariant-loop-b
invariant-loop-b l = record {
  bytes : l.bytes ++ said l.taken (drop l.b-index l.value) ≡ said false l.value;
}
