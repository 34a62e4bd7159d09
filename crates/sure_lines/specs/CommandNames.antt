-- The words that name this program's commands.
use Rattle.std.specs.Prelude.{ℕ, Bool, List, [], ◌∷◌, codes}
use Rattle.std.specs.List.{list_any, join_with_byte}
use Rattle.std.specs.Str.{bytes_eq}
use Rattle.gtp_cmd.specs.Words.{line_feed}

-- the names of the commands, in the order in which they are listed
abbrev pub own_names : List (List ℕ)
own_names =
    codes "protocol_version"
    ∷ codes "name"
    ∷ codes "version"
    ∷ codes "known_command"
    ∷ codes "list_commands"
    ∷ codes "quit"
    ∷ codes "boardsize"
    ∷ codes "clear_board"
    ∷ codes "komi"
    ∷ codes "play"
    ∷ codes "undo"
    ∷ codes "attack"
    ∷ codes "defend"
    ∷ codes "depths"
    ∷ codes "loadsgf"
    ∷ codes "attack_proof"
    ∷ codes "defend_proof"
    ∷ codes "check_proof"
    ∷ []

-- the word names a command of this program
abbrev pub is_own : List ℕ → Bool
is_own word = list_any (bytes_eq word) own_names

-- the names of the commands, one on each line
abbrev pub names_text : List ℕ
names_text = join_with_byte line_feed own_names
