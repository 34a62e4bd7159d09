-- What the commands do that choose a move by the patterns.
use Rattle.std.specs.Prelude.{ℕ, ◌==◌, Bool, List, [], ◌∷◌, ◌++◌, length, Option, Some, None, if◌then◌else◌, codes}
use Rattle.std.specs.Option.{option_map}
use Rattle.go_rules.specs.declared.Colour.{Colour}
use Rattle.go_rules.specs.declared.Move.{Move}
use Rattle.go_history.specs.Games.{most_moves}
use Rattle.gtp_cmd.specs.Vertices.{vertex_text}
use Rattle.gtp_cmd.specs.declared.refusals.RefuseText.TheVariants.{HistoryFull}
use Rattle.move_choice.specs.Choice.{choice_of}
use Rattle.machine_rules.specs.Machine.{Machine}
use Rattle.machine_rules.specs.Matcher.{Matcher}
use Rattle.machine_rules.specs.Effects.{Effect, refused}
use Rattle.machine_rules.specs.MatchingCommands.{matches_found, after_asking, advised}

-- the point of the chosen match for a friend, none if no pattern matches
abbrev pub chosen_point : Matcher → Machine → Colour → Option ℕ
chosen_point matcher old friend =
    option_map (λ z. z.at) (choice_of matcher.patterns (matches_found matcher old friend))

-- a move of a board of size s as it is printed, `PASS` if there is none
abbrev pub move_or_pass : ℕ → Option ℕ → List ℕ
move_or_pass s None = codes "PASS"
move_or_pass s (Some p) = vertex_text s p

-- the machine with one more move at the end of its list
abbrev pub with_move : Machine → Move → Machine
with_move machine move = record machine { moves = machine.moves ++ move ∷ [] }

-- the list of moves is full
abbrev pub is_full : Machine → Bool
is_full machine = length machine.moves == most_moves

-- the chosen move for a friend is printed, and no move is added
abbrev pub move_told : Matcher → Machine → Colour → Effect
move_told matcher old friend = advised old (after_asking matcher old friend)
    (move_or_pass old.base.size (chosen_point matcher old friend)) (after_asking matcher old friend)

-- the chosen move for a friend is printed and added, if the list is not full
abbrev pub move_made : Matcher → Machine → Colour → Effect
move_made matcher old friend =
    if is_full old then refused old HistoryFull
    else advised old (after_asking matcher old friend)
    (move_or_pass old.base.size (chosen_point matcher old friend))
    (with_move (after_asking matcher old friend)
    (record { colour = friend; at = chosen_point matcher old friend }))
