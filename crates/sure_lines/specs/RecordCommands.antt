-- The effect of the command that loads a game record.
use Rattle.std.specs.Prelude.{ℕ, List, [], Result, Ok, Err}
use Rattle.go_history.specs.Games.{game_from}
use Rattle.go_rules.specs.Position.{BoardState}
use Rattle.gtp_cmd.specs.declared.refusals.RefuseText.TheVariants.{BadSgf}
use Rattle.sgf_rules.specs.declared.kind.FaultKind.{FaultKind}
use Rattle.sgf_rules.specs.Game.{game_of}
use Rattle.sgf_rules.specs.Kinds.{number_of}
use Rattle.sure_lines.specs.Effects.{Effect, refused, succeeded}
use Rattle.sure_lines.specs.Files.{by_file}
use Rattle.sure_lines.specs.Machine.{Machine}

-- the machine begins again from the position of the game record, or the record is refused with its first fault
abbrev pub recorded : Machine → Result BoardState FaultKind → Effect
recorded old (Ok board) = succeeded [] (record old { game = game_from board })
recorded old (Err kind) = refused old (BadSgf (number_of kind))

-- the effect of loading the file of this name, whose text is read as a game record
abbrev pub loaded_by : Machine → List ℕ → List ℕ → Effect
loaded_by old name file = by_file old name (recorded old (game_of file))
