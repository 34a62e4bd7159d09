-- What the machine gives for a line: the reply, the fallbacks that may stand in its place, and the machine after the
-- line. A refused line keeps the machine.
use Rattle.std.specs.Prelude.{◌≡◌, ℕ, false, List, [], codes}
use Rattle.gtp_rules.specs.Lines.{RawLine}
use Rattle.gtp_rules.specs.Steps.{Step}
use Rattle.gtp_cmd.specs.Commands.{names_text}
use Rattle.gtp_cmd.specs.Spans.{spanned}
use Rattle.gtp_cmd.specs.declared.commands.Command.{Command}
use Rattle.gtp_cmd.specs.declared.commands.Command.TheVariants as command
use Rattle.gtp_cmd.specs.declared.commands.Parsed.{Parsed}
use Rattle.gtp_cmd.specs.declared.commands.Parsed.TheVariants as parsed
use Rattle.read_rules.specs.declared.question.Kind.TheVariants.{Attack, Defend}
use Rattle.machine_rules.specs.Heard.{heard, bytes_in, word_at}
use Rattle.machine_rules.specs.Machine.{Machine}
use Rattle.machine_rules.specs.Matcher.{Matcher}
use Rattle.machine_rules.specs.Effects.{Effect, refused, succeeded, grown, ended, replied}
use Rattle.machine_rules.specs.Files.{Contents}
use Rattle.machine_rules.specs.Loads.{load_in, IsFileOf}
use Rattle.machine_rules.specs.BoardCommands.{resized, cleared, komi_kept, played, taken_back, shown, allowed}
use Rattle.machine_rules.specs.BoardCommands.{all_allowed, liberties_counted, liberties_found, captures_counted}
use Rattle.connect_rules.specs.declared.question.LinkKind.TheVariants.{Connect, Disconnect}
use Rattle.machine_rules.specs.ChoiceCommands.{move_made, move_told}
use Rattle.machine_rules.specs.HelperCommands.{switched_off, calls_told, dropped}
use Rattle.machine_rules.specs.LinkCommands.{linked}
use Rattle.machine_rules.specs.ProofCommands.{word_of, proved, checked, kind_of}
use Rattle.machine_rules.specs.ReadingCommands.{read, deepened}
use Rattle.machine_rules.specs.RecordCommands.{loaded_by}
use Rattle.machine_rules.specs.MatchingCommands.{matches_listed, patterns_listed}

-- what a command reads besides its arguments: the bytes of its line, and the text of the file that the line loads
pub record Input : Type 0 where
  pub line : List ℕ
  pub file : List ℕ

-- what a command does to the machine, and what it prints
abbrev pub effect_of : Matcher → Machine → Input → Command → Effect
effect_of matcher old input command.ProtocolVersion = succeeded (codes "2") old
effect_of matcher old input command.Name = succeeded (codes "gopat") old
effect_of matcher old input command.Version = succeeded (codes "1") old
effect_of matcher old input (command.KnownCommand known) = succeeded (word_of known) old
effect_of matcher old input command.ListCommands = grown old names_text old
effect_of matcher old input command.Quit = ended old
effect_of matcher old input (command.BoardSize size) = resized old size
effect_of matcher old input command.ClearBoard = cleared old
effect_of matcher old input (command.Komi komi) = komi_kept old komi
effect_of matcher old input command.GetKomi = succeeded old.komi old
effect_of matcher old input (command.Play c at) = played old (record { colour = c; at = at })
effect_of matcher old input command.Undo = taken_back old old.moves
effect_of matcher old input command.ShowBoard = shown old
effect_of matcher old input (command.IsLegal c at) = allowed old (record { colour = c; at = at })
effect_of matcher old input (command.AllLegal c) = all_allowed old c
effect_of matcher old input (command.CountLib p) = liberties_counted old p
effect_of matcher old input (command.FindLib p) = liberties_found old p
effect_of matcher old input (command.Captures c) = captures_counted old c
effect_of matcher old input (command.Attack p) = read old Attack p
effect_of matcher old input (command.Defend p) = read old Defend p
effect_of matcher old input (command.Depths plies wide) = deepened old plies wide
effect_of matcher old input (command.MatchPatterns friend) = matches_listed matcher old friend
effect_of matcher old input command.ListPatterns = patterns_listed matcher old
effect_of matcher old input (command.LoadSgf span) = loaded_by old (word_at input.line span) input.file
effect_of matcher old input (command.AttackProof p) = proved old Attack p
effect_of matcher old input (command.DefendProof p) = proved old Defend p
effect_of matcher old input (command.CheckProof attack p code span) =
    checked old (kind_of attack) p code (spanned input.line span)
effect_of matcher old input (command.Connect a b) = linked old Connect a b
effect_of matcher old input (command.Disconnect a b) = linked old Disconnect a b
effect_of matcher old input (command.GenMove friend) = move_made matcher old friend
effect_of matcher old input (command.RegGenMove friend) = move_told matcher old friend
effect_of matcher old input (command.HelperOff span) = switched_off old (word_at input.line span)
effect_of matcher old input (command.HelperCalls span) = calls_told old (word_at input.line span)
effect_of matcher old input (command.HelperDrop span) = dropped old (word_at input.line span)

-- the step for a parsed line
abbrev pub parsed_step : Matcher → Machine → Input → Parsed → Step Machine
parsed_step matcher old input parsed.Nothing =
    record { reply = []; fallbacks = []; next = old; ends = false }
parsed_step matcher old input (parsed.Refused id text) = replied id (refused old text)
parsed_step matcher old input (parsed.Command id command) = replied id (effect_of matcher old input command)

-- the step for a line; `file` is the text that the line loads, if it loads one
unfoldable pub step_on : Matcher → Machine → List ℕ → RawLine → Step Machine
step_on matcher old file line = parsed_step matcher old (record { line = bytes_in line; file = file }) (heard old line)

-- `given` is a step for the line: the step on some text that the file loaded by the line may hold
abbrev pub step : Matcher → Contents → Machine → RawLine → Step Machine → Type 0
step matcher contents old line given =
    (file : List ℕ) × IsFileOf contents (load_in old line) file × (given ≡ step_on matcher old file line)
