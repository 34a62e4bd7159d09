-- The loop over the values of a node.
use Rattle.std.proofs.Common.{◌≡◌, ◌++◌, drop}
use Rattle.problem_records.specs.Nodes.{all_shown, comment_of}
use Rattle.problem_records.proofs.node.comment.Given as goal

-- the comment so far and that of the other values is the whole comment
abbrev pub invariant-loop-value : goal.invariant-loop-value
invariant-loop-value l = record {
  rest : l.text ++ comment_of (all_shown (drop l.value-index l.values)) ≡ comment_of (all_shown l.values);
}
