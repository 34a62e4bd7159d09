-- What the command does that loads a game record: its position becomes the base of the machine.
use Rattle.std.specs.Prelude.{ℕ, List, [], ◌∷◌, length, ◌==◌, Bool, Result, Ok, Err, if◌then◌else◌}
use Rattle.std.specs.Str.Lossy.{utf8_valid_len}
use Rattle.go_rules.specs.Position.{BoardState}
use Rattle.sgf_rules.specs.declared.kind.FaultKind.{FaultKind}
use Rattle.sgf_rules.specs.Game.{game_of}
use Rattle.sgf_rules.specs.Kinds.{number_of}
use Rattle.gtp_cmd.specs.declared.refusals.RefuseText.TheVariants.{SyntaxError, CannotLoadFile, BadSgf}
use Rattle.machine_rules.specs.Machine.{Machine}
use Rattle.machine_rules.specs.Effects.{Excuse, Effect, refused, succeeded, growing}

-- whether the bytes are UTF-8: their longest prefix in UTF-8 is the whole
abbrev pub is_utf8 : List ℕ → Bool
is_utf8 bytes = utf8_valid_len bytes == length bytes

-- the file could not be loaded, and the machine stays
abbrev pub not_loaded : Machine → Excuse
not_loaded old = record { refusal = CannotLoadFile; next = old }

-- moves are played from the position of the game record from now on, or the command is refused with its first fault
abbrev pub recorded : Machine → Result BoardState FaultKind → Effect
recorded old (Ok board) = succeeded [] (record old { base = board; moves = [] })
recorded old (Err kind) = refused old (BadSgf (number_of kind))

-- a text is parsed as a game record; the file may also fail to load
abbrev pub loaded : Machine → List ℕ → Effect
loaded old file = record (recorded old (game_of file)) { excuses = not_loaded old ∷ [] }

-- the file of this name, with this text, is loaded; a name that is not UTF-8 is refused. Memory may run out.
abbrev pub loaded_by : Machine → List ℕ → List ℕ → Effect
loaded_by old name file = growing old (if is_utf8 name then loaded old file else refused old SyntaxError)
