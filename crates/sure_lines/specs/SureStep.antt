-- What the machine gives for a line: the reply, the refusals that may take its place, and the machine after it.
use Rattle.std.specs.Prelude.{◌≡◌, ℕ, false, List, [], codes, drop}
use Rattle.gtp_rules.specs.Lines.{RawLine}
use Rattle.gtp_rules.specs.Steps.{Step}
use Rattle.gtp_cmd.specs.Spans.{spanned}
use Rattle.gtp_cmd.specs.Words.{cleaned, words_of}
use Rattle.gtp_cmd.specs.declared.commands.Command.{Command}
use Rattle.gtp_cmd.specs.declared.commands.Command.TheVariants as command
use Rattle.gtp_cmd.specs.declared.commands.Parsed.{Parsed}
use Rattle.gtp_cmd.specs.declared.commands.Parsed.TheVariants as parsed
use Rattle.gtp_cmd.specs.declared.refusals.RefuseText.TheVariants.{UnknownCommand}
use Rattle.read_rules.specs.declared.question.Kind.TheVariants.{Attack, Defend}
use Rattle.sure_lines.specs.BoardCommands.{resized, cleared, played, taken_back, deepened}
use Rattle.sure_lines.specs.Effects.{Effect, refused, succeeded, ended, growing, replied}
use Rattle.sure_lines.specs.Files.{Contents, word_at}
use Rattle.sure_lines.specs.Heard.{heard, bytes_in, asked_words, names_own}
use Rattle.sure_lines.specs.CommandNames.{names_text}
use Rattle.sure_lines.specs.ProofCommands.{proved, checked_by, kind_of}
use Rattle.sure_lines.specs.QuestionCommands.{read}
use Rattle.sure_lines.specs.RecordCommands.{loaded_by}
use Rattle.sure_lines.specs.Replies.{word_of}
use Rattle.sure_lines.specs.Texts.{IsTextSaid}
use Rattle.sure_lines.specs.Machine.{Machine}

-- the effect of a command of this line; the argument file is the text of the file that the command loads, or the proof
-- that it prints
abbrev pub effect_of : Machine → List ℕ → List ℕ → Command → Effect
effect_of old line file command.ProtocolVersion = succeeded (codes "2") old
effect_of old line file command.Name = succeeded (codes "gopat_sure") old
effect_of old line file command.Version = succeeded (codes "1") old
effect_of old line file (command.KnownCommand known) =
    succeeded (word_of (names_own (drop 1 (asked_words (words_of (cleaned line)))))) old
effect_of old line file command.ListCommands = growing (succeeded names_text old)
effect_of old line file command.Quit = ended old
effect_of old line file (command.BoardSize size) = resized old size
effect_of old line file command.ClearBoard = cleared old
effect_of old line file (command.Komi komi) = succeeded [] old
effect_of old line file (command.Play c at) = played old (record { colour = c; at = at })
effect_of old line file command.Undo = taken_back old old.game.moves
effect_of old line file (command.Attack p) = read old Attack p
effect_of old line file (command.Defend p) = read old Defend p
effect_of old line file (command.AttackProof p) = proved old Attack p file
effect_of old line file (command.DefendProof p) = proved old Defend p file
effect_of old line file (command.CheckProof attack p code span) =
    checked_by old (kind_of attack) p code (spanned line span) file
effect_of old line file (command.Depths plies wide) = deepened old plies wide
effect_of old line file (command.LoadSgf span) = loaded_by old (word_at line span) file
effect_of old line file _ = refused old UnknownCommand

-- the answer to what a line says
abbrev pub parsed_step : Machine → List ℕ → List ℕ → Parsed → Step Machine
parsed_step old line file parsed.Nothing = record { reply = []; fallbacks = []; next = old; ends = false }
parsed_step old line file (parsed.Refused id text) = replied id old (refused old text)
parsed_step old line file (parsed.Command id command) = replied id old (effect_of old line file command)

-- the answer to a line, if file is the text of the file that it loads or the proof that it prints
abbrev pub step_on : Machine → List ℕ → RawLine → Step Machine
step_on old file line = parsed_step old (bytes_in line) file (heard old line)

-- an answer to a line: the answer with some text that is the contents of the file that the line loads, or the proof
-- that it prints
abbrev pub step : Contents → Machine → RawLine → Step Machine → Type 0
step contents old line given =
    (file : List ℕ) × IsTextSaid contents old (bytes_in line) (heard old line) file
    × (given ≡ step_on old file line)
