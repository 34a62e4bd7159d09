use Rattle.std.proofs.Common.{◌≡◌, ◌++◌, drop}
use Rattle.db_rules.specs.Labels.{labels_from}
use Rattle.db_entry.proofs.marks.lines.push_from.Given as goal

-- the labels so far and those of the columns that are left are all those of the line
abbrev pub invariant-loop-i : goal.invariant-loop-i
invariant-loop-i l =
    l.labels ++ labels_from l.row l.i (drop l.i l.main)
    (drop l.i l.word) ≡ l.fn.labels ++ labels_from l.row 0 l.main l.word
