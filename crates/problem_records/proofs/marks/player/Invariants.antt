-- The loop over the values of a node.
use Rattle.std.proofs.Common.{◌≡◌, drop}
use Rattle.problem_records.specs.Nodes.{all_shown}
use Rattle.problem_records.specs.Marks.{player_of}
use Rattle.problem_records.proofs.marks.player.Given as goal

-- no value so far says the player
abbrev pub invariant-loop-value : goal.invariant-loop-value
invariant-loop-value l = record {
  rest : player_of (all_shown (drop l.value-index l.values)) ≡ player_of (all_shown l.values);
}
