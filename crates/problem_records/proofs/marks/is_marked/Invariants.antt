-- The loop over the values of a node.
use Rattle.std.proofs.Common.{◌≡◌, drop}
use Rattle.problem_records.specs.Nodes.{all_shown}
use Rattle.problem_records.specs.Marks.{is_marked}
use Rattle.problem_records.proofs.marks.is_marked.Given as goal

-- no value so far marks the point
abbrev pub invariant-loop-value : goal.invariant-loop-value
invariant-loop-value l = record {
  rest : is_marked l.size l.p (all_shown (drop l.value-index l.values)) ≡ is_marked l.size l.p (all_shown l.values);
}
