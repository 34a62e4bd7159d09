-- What the commands do that set up a board, play on it and answer questions about it.
use Rattle.std.specs.Prelude.{ℕ, ◌-◌, ◌==◌, Bool, List, [], ◌∷◌, ◌++◌, length, take, Option, None, Some, is_ok}
use Rattle.std.specs.Prelude.{if◌then◌else◌, codes, decimal}
use Rattle.go_rules.specs.declared.Colour.{Colour}
use Rattle.go_rules.specs.declared.Move.{Move}
use Rattle.go_rules.specs.Strings.{cell_at, is_stone, liberties}
use Rattle.go_rules.specs.Replay.{empty_board, moved, captures_from}
use Rattle.go_history.specs.Games.{most_moves}
use Rattle.gtp_cmd.specs.declared.refusals.RefuseText.TheVariants.{UnacceptableSize, IllegalMove, HistoryFull}
use Rattle.gtp_cmd.specs.declared.refusals.RefuseText.TheVariants.{CannotUndo, VertexEmpty}
use Rattle.machine_rules.specs.Machine.{Machine, position_of}
use Rattle.machine_rules.specs.Effects.{Effect, refused, succeeded, grown}
use Rattle.machine_rules.specs.BoardText.{board_text}
use Rattle.machine_rules.specs.PointLists.{legal_list, liberty_list, vertices_text}

-- the board becomes the empty board of this size, even if it has this size already; the command is refused if no board
-- has the size
abbrev pub resized : Machine → Option ℕ → Effect
resized old None = refused old UnacceptableSize
resized old (Some size) = succeeded [] (record old { base = empty_board size; moves = [] })

-- the list of moves is emptied, and the base becomes the empty board of the same size
abbrev pub cleared : Machine → Effect
cleared old = succeeded [] (record old { base = empty_board old.base.size; moves = [] })

-- the text of the komi is kept
abbrev pub komi_kept : Machine → List ℕ → Effect
komi_kept old komi = succeeded [] (record old { komi = komi })

-- a move is added to the list if it is legal and the list is not full
abbrev pub played : Machine → Move → Effect
played old move =
    if is_ok (moved (position_of old) move)
    then (if length old.moves == most_moves then refused old HistoryFull else grown old []
    (record old { moves = old.moves ++ move ∷ [] }))
    else refused old IllegalMove

-- the last move is taken from the list
abbrev pub taken_back : Machine → List Move → Effect
taken_back old [] = refused old CannotUndo
taken_back old (move ∷ moves) = succeeded [] (record old { moves = take (length old.moves - 1) old.moves })

-- the board is shown
abbrev pub shown : Machine → Effect
shown old = grown old (board_text (position_of old)) old

-- `1` or `0`
abbrev pub digit_of : Bool → List ℕ
digit_of holds = if holds then codes "1" else codes "0"

-- the reply is `1` if the rules allow the move, else `0`
abbrev pub allowed : Machine → Move → Effect
allowed old move = succeeded (digit_of (is_ok (moved (position_of old) move))) old

-- the reply lists the points where the colour may play
abbrev pub all_allowed : Machine → Colour → Effect
all_allowed old c = grown old (vertices_text old.base.size (legal_list (position_of old) c)) old

-- the effect, if a stone stands at the point; else the command is refused
abbrev pub of_stone : Machine → ℕ → Effect → Effect
of_stone old p effect = if is_stone (cell_at (position_of old).cells p) then effect else refused old VertexEmpty

-- the reply is the number of liberties of the string of a point
abbrev pub liberties_counted : Machine → ℕ → Effect
liberties_counted old p = of_stone old p
    (succeeded (decimal (liberties (position_of old).size (position_of old).cells p)) old)

-- the reply lists the liberties of the string of a point
abbrev pub liberties_found : Machine → ℕ → Effect
liberties_found old p = of_stone old p (grown old (vertices_text old.base.size (liberty_list (position_of old) p)) old)

-- the reply is the number of stones that the moves of a colour captured, played from the base
abbrev pub captures_counted : Machine → Colour → Effect
captures_counted old c = succeeded (decimal (captures_from old.base c old.moves)) old
