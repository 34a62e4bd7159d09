-- The loop over the blanks.
use Rattle.std.proofs.Common.{◌≡◌, ◌+◌, drop}
use Rattle.std.specs.List.{prefix_len}
use Rattle.sgf_rules.specs.Tokens.{is_blank}
use Rattle.problem_records.proofs.line.behind_blanks.Given as goal

-- the blanks so far and those that follow them are the blanks at the front
abbrev pub invariant-loop-i : goal.invariant-loop-i
invariant-loop-i l = prefix_len is_blank (drop l.i l.bytes) + l.i ≡ prefix_len is_blank l.bytes
