-- The file that a line loads.
use Rattle.std.specs.Prelude.{ℕ, List, [], ◌∷◌, Option, Some, None, if◌then◌else◌}
use Rattle.std.specs.Str.{bytes_eq}
use Rattle.gtp_rules.specs.Lines.{RawLine}
use Rattle.gtp_cmd.specs.Replies.{refusal_text}
use Rattle.gtp_cmd.specs.declared.refusals.RefuseText.TheVariants.{CannotLoadFile}
use Rattle.gtp_cmd.specs.declared.commands.Command.{Command}
use Rattle.gtp_cmd.specs.declared.commands.Command.TheVariants as command
use Rattle.gtp_cmd.specs.declared.commands.Parsed.{Parsed}
use Rattle.gtp_cmd.specs.declared.commands.Parsed.TheVariants as parsed
use Rattle.machine_rules.specs.Files.{Contents, IsContents}
use Rattle.machine_rules.specs.Heard.{heard, bytes_in, word_at}
use Rattle.machine_rules.specs.Machine.{Machine}
use Rattle.machine_rules.specs.RecordCommands.{is_utf8}
use Rattle.machine_rules.specs.AnsweredLines.{AnsweredLine}

-- the file that a line loads: its name, and the id of the line
pub record Load : Type 0 where
  pub id : Option ℕ
  pub name : List ℕ

-- the load of the file of this name; none if the name is not UTF-8
abbrev pub load_by : Option ℕ → List ℕ → Option Load
load_by id name = if is_utf8 name then Some (record { id = id; name = name }) else None

-- the file that a command of a line with these bytes and this id loads, if it loads one
abbrev pub load_of : List ℕ → Option ℕ → Command → Option Load
load_of line id (command.LoadSgf span) = load_by id (word_at line span)
load_of line id _ = None

-- the file that a parsed line of these bytes loads, if it loads one
abbrev pub parsed_load : List ℕ → Parsed → Option Load
parsed_load line (parsed.Command id command) = load_of line id command
parsed_load line _ = None

-- the file that a line loads, if it loads one
unfoldable pub load_in : Machine → RawLine → Option Load
load_in machine line = parsed_load (bytes_in line) (heard machine line)

-- the load of the file of this name, for a line without an id
abbrev pub named_load : List ℕ → Option Load
named_load name = load_by None name

-- the text is the contents of the loaded file, if these are known; any text is right if no file is loaded
abbrev pub IsFileOf : Contents → Option Load → List ℕ → Type 0
IsFileOf contents None file = Unit {0}
IsFileOf contents (Some load) file = IsContents (contents load.name) file

-- the names missed with this reply: the name of the file, if the reply says that it cannot be loaded
abbrev pub missed_by : Option Load → List ℕ → List (List ℕ)
missed_by None reply = []
missed_by (Some load) reply =
    if bytes_eq reply (refusal_text load.id CannotLoadFile) then load.name ∷ [] else []

-- the names of the files that a line could not load
abbrev pub missed_in : AnsweredLine Machine → List (List ℕ)
missed_in turn = missed_by (load_in turn.machine turn.line) turn.reply
