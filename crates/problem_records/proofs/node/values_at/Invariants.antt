-- The loop over the tokens of a node.
use Rattle.std.proofs.Common.{◌≡◌, ◌≤◌, ◌-◌, ◌++◌, length, None}
use Rattle.std.specs.List.{filter}
use Rattle.std.specs.Option.{option_map}
use Rattle.sgf_rules.specs.Tokens.{is_capital}
use Rattle.sgf_read.specs.Reads.{tokens_from}
use Rattle.problem_records.specs.Nodes.{all_shown}
use Rattle.problem_records.proofs.Values.{values_from}
use Rattle.problem_records.proofs.node.values_at.Given as goal

-- the values so far and those that follow are the values of the node
abbrev pub invariant-tokens : goal.invariant-tokens
invariant-tokens l = record {
  within : l.at ≤ length l.text;
  rest : all_shown l.values.items
      ++ values_from (option_map (λ n. filter is_capital n.now) l.name) (tokens_from l.text l.at)
      ≡ values_from None (tokens_from l.text l.start);
}

-- the bytes that are left
abbrev pub decreases-tokens : goal.decreases-tokens
decreases-tokens l = length l.text - l.at
