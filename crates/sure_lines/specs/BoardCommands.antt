-- The effects of the commands that set up a board, play on it, and set how deep readings go.
use Rattle.std.specs.Prelude.{ℕ, ◌-◌, ◌==◌, List, [], ◌∷◌, ◌++◌, length, take, Option, None, Some, is_ok}
use Rattle.std.specs.Prelude.{if◌then◌else◌}
use Rattle.go_rules.specs.declared.Move.{Move}
use Rattle.go_rules.specs.Replay.{moved}
use Rattle.go_history.specs.Games.{most_moves, new_game}
use Rattle.gtp_cmd.specs.declared.refusals.RefuseText.TheVariants.{UnacceptableSize, IllegalMove, HistoryFull}
use Rattle.gtp_cmd.specs.declared.refusals.RefuseText.TheVariants.{CannotUndo}
use Rattle.sure_lines.specs.Effects.{Effect, refused, succeeded, growing}
use Rattle.sure_lines.specs.Machine.{Machine, present}

-- boardsize begins again from the empty board of this size, even if it is the present size; it is refused if there is
-- no size
abbrev pub resized : Machine → Option ℕ → Effect
resized old None = refused old UnacceptableSize
resized old (Some size) = succeeded [] (record old { game = new_game size })

-- clear_board begins again from the empty board of the present size
abbrev pub cleared : Machine → Effect
cleared old = succeeded [] (record old { game = new_game old.game.base.size })

-- the machine with one move more
abbrev pub with_move : Machine → Move → Machine
with_move old move = record old { game = record old.game { moves = old.game.moves ++ move ∷ [] } }

-- play adds the move to the list if it is legal and the list is not full; there may be no memory for it
abbrev pub played : Machine → Move → Effect
played old move =
    if is_ok (moved (present old) move)
    then (if length old.game.moves == most_moves then refused old HistoryFull else growing
    (succeeded [] (with_move old move)))
    else refused old IllegalMove

-- undo takes the last move from the list; it is refused if there is none
abbrev pub taken_back : Machine → List Move → Effect
taken_back old [] = refused old CannotUndo
taken_back old (move ∷ moves) =
    succeeded [] (record old { game = record old.game { moves = take (length old.game.moves - 1) old.game.moves } })

-- depths sets the plies and the wide plies of later readings; their tree stays
abbrev pub deepened : Machine → ℕ → ℕ → Effect
deepened old plies wide = succeeded [] (record old { plies = plies; wide = wide })
