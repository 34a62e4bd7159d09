use Rattle.std.proofs.Common.{◌≡◌, drop}
use Rattle.pat_types.specs.Labels.{are_apart as apart}
use Rattle.db_entry.proofs.marks.lines.are_apart.Given as goal

-- no label so far has the letter of one behind it: the rest decides
abbrev pub invariant-loop-i : goal.invariant-loop-i
invariant-loop-i l = apart (drop l.i l.labels) ≡ apart l.labels
