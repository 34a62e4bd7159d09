use Rattle.std.proofs.Common.{◌≡◌, ◌++◌}
use Rattle.std.specs.List.{flat_map, range_with_len}
use Rattle.machine_rules.specs.BoardText.{cell_text}
use Rattle.session_core.proofs.board_text.push_row.Given as goal

-- the points of the row so far were put behind its number
abbrev pub invariant-loop-column : goal.invariant-loop-column
invariant-loop-column l =
    l.text ≡ l.initial.text ++ flat_map (cell_text l.position.size l.position.cells l.row) (range_with_len 0 l.column)
