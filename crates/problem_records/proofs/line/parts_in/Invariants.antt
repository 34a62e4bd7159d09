-- The loop over the words behind the question.
use Rattle.std.proofs.Common.{◌≡◌}
use Rattle.problem_records.proofs.line.parts_in.Given as goal

-- the question stays
abbrev pub invariant-loop-word : goal.invariant-loop-word
invariant-loop-word l = record {
  kind : l.draft.line.kind ≡ l.fn.kind;
  target : l.draft.line.target ≡ l.fn.target;
}
