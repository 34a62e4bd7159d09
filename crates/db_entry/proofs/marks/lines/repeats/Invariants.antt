use Rattle.std.proofs.Common.{◌≡◌, drop}
use Rattle.db_rules.specs.Labels.{repeats as word_repeats}
use Rattle.db_entry.proofs.marks.lines.repeats.Given as goal

-- the bytes read so far repeat the main line: the rest decides
abbrev pub invariant-loop-i : goal.invariant-loop-i
invariant-loop-i l = word_repeats (drop l.i l.main) (drop l.i l.word) ≡ word_repeats l.main l.word
