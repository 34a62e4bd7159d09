use Rattle.std.proofs.Common.{◌≡◌, ◌++◌}
use Rattle.std.specs.List.{flat_map, range_with_len}
use Rattle.machine_rules.specs.BoardText.{row_text}
use Rattle.session_core.proofs.board_text.board_text.Given as goal

-- the rows so far were put behind a line feed
abbrev pub invariant-loop-row : goal.invariant-loop-row
invariant-loop-row l =
    l.text ≡ l.initial.text ++ flat_map (row_text l.position.size l.position.cells) (range_with_len 0 l.row)
