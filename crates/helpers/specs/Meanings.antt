-- What the two helpers of this crate say.
use Rattle.std.specs.Prelude.{ℕ, ◌+◌, Bool, ◌||◌, is_none, nat_lt, nat_le, codes}
use Rattle.go_rules.specs.declared.Colour.{Colour}
use Rattle.go_rules.specs.Board.{row_of, column_of}
use Rattle.go_rules.specs.Position.{BoardState}
use Rattle.helpers.specs.HelperStates.{HelperState}

-- the line is among the first two or the last two of a board of size s
abbrev pub is_outer : ℕ → ℕ → Bool
is_outer s line = nat_lt line 2 || nat_le s (line + 2)

-- the point's row or its column is among the first two or the last two
unfoldable pub is_near_edge : BoardState → ℕ → Colour → Bool
is_near_edge board at friend =
    is_outer board.size (row_of board.size at) || is_outer board.size (column_of board.size at)

-- the position has no ko ban
abbrev pub has_no_ban : BoardState → ℕ → Colour → Bool
has_no_ban board at friend = is_none board.ban

-- the state of a `NearEdge` that was asked this often
abbrev pub near_edge : ℕ → HelperState
near_edge calls = record { name = codes "near_edge"; says = is_near_edge; calls = calls }

-- the state of a `NoBan` that was asked this often
abbrev pub no_ban : ℕ → HelperState
no_ban calls = record { name = codes "no_ban"; says = has_no_ban; calls = calls }
