-- The loop over the tokens before the first node.
use Rattle.std.proofs.Common.{◌≡◌, ◌≤◌, ◌-◌, length}
use Rattle.sgf_rules.specs.MainLine.{nodes_in}
use Rattle.sgf_read.specs.Reads.{tokens_from}
use Rattle.problem_records.specs.Nodes.{first_of, first_node}
use Rattle.problem_records.proofs.node.first_node_start.Given as goal

-- no node began so far
abbrev pub invariant-tokens : goal.invariant-tokens
invariant-tokens l = record {
  within : l.at ≤ length l.text;
  node : first_of (nodes_in (tokens_from l.text l.at)) ≡ first_node l.text;
}

-- the bytes that are left
abbrev pub decreases-tokens : goal.decreases-tokens
decreases-tokens l = length l.text - l.at
