use Rattle.std.proofs.Common.{◌≡◌, ◌++◌}
use Rattle.std.specs.List.{flat_map, range_with_len}
use Rattle.machine_rules.specs.BoardText.{letter_text}
use Rattle.session_core.proofs.board_text.push_letters.Given as goal

-- the letters of the columns so far were put
abbrev pub invariant-loop-column : goal.invariant-loop-column
invariant-loop-column l = l.text ≡ l.fn.text ++ flat_map letter_text (range_with_len 0 l.column)
