-- What trial moves changed of a position: the cells at some points, and the ban.
use Rattle.std.specs.Prelude.{◌≡◌, ◌⊎◌, ℕ, zero, suc, ◌*◌, ◌==◌, Bool, true, false, ◌||◌, List, map, slice_index_or}
use Rattle.std.specs.Prelude.{Option, Some, None}
use Rattle.std.specs.List.{range_with_len}
use Rattle.std.specs.FinSet as set
use Rattle.go_rules.specs.declared.Cell.{Cell}
use Rattle.go_rules.specs.declared.Cell.TheVariants.{Empty, Black, White}
use Rattle.go_rules.specs.Strings.{cell_at}
use Rattle.go_rules.specs.Position.{BoardState}
use Rattle.go_base.specs.Bits.{is_marked}
use Rattle.trial_board.specs.declared.changes.Changes.{Changes}
use Rattle.trial_board.specs.declared.known.Known.{Known}
use Rattle.trial_board.specs.declared.known.Known.TheVariants.{NotAsked, Seen, Put}
use Rattle.trial_board.specs.declared.moves.TrialMove.{TrialMove}
use Rattle.trial_board.specs.declared.moves.TrialMove.TheVariants.{Pass, Play}
use Rattle.trial_board.specs.UndoableMoves.{UndoableMove}
use Rattle.trial_board.specs.Standing.{kept_at, taken_by}

-- the cell by the marks of black and of white: Empty with both marks, and None with neither
abbrev pub cell_by : Bool → Bool → Option Cell
cell_by true true = Some Empty
cell_by true false = Some Black
cell_by false true = Some White
cell_by false false = None

-- the cell that the changes c have for the point q; None if they have none
abbrev pub told_at : Changes → ℕ → Option Cell
told_at c q = cell_by (is_marked c.black q) (is_marked c.white q)

-- the cell of the option if there is one, else the other cell
abbrev pub told_or : Option Cell → Cell → Cell
told_or None cell = cell
told_or (Some told) cell = told

-- the position with the cells and the ban of the changes
unfoldable pub changed : BoardState → Changes → BoardState
changed pos c = record {
  size = pos.size;
  cells = map (λ q. told_or (told_at c q) (cell_at pos.cells q)) (range_with_len 0 (pos.size * pos.size));
  ban = c.ban;
}

-- the cell that was put at a point, if one was put there
abbrev pub put_cell : Known → Option Cell
put_cell NotAsked = None
put_cell (Seen k) = None
put_cell (Put k) = Some k

-- the move put a stone at q
abbrev pub is_played_at : TrialMove → ℕ → Bool
is_played_at Pass q = false
is_played_at (Play m) q = q == m.at

-- the move put a stone at q, or took a stone there
abbrev pub is_touched_by : List ℕ → UndoableMove → ℕ → Bool
is_touched_by row move q = is_played_at move.made q || set.contains (taken_by row move) q

-- one of the first n moves touched q
abbrev pub is_touched : List ℕ → List UndoableMove → ℕ → ℕ → Bool
is_touched row kept zero q = false
is_touched row kept (suc n) q = is_touched_by row (kept_at kept n) q || is_touched row kept n q

-- each cell of the changes is the cell that was put at its point, and the changes have it for each touched point
pub record TellsPut (known : List Known) (touched : ℕ → Bool) (c : Changes) : Type 0 where
  pub only : (q : ℕ) → (told_at c q ≡ None) ⊎ (told_at c q ≡ put_cell (slice_index_or known q NotAsked))
  pub each : (q : ℕ) → touched q ≡ true → told_at c q ≡ put_cell (slice_index_or known q NotAsked)
