-- What a line asks of the readings.
use Rattle.std.specs.Prelude.{◌≡◌, ℕ, List, All, if◌then◌else◌}
use Rattle.gtp_rules.specs.Lines.{RawLine, Line, TooLong}
use Rattle.gtp_cmd.specs.Commands.{parsed_of}
use Rattle.gtp_cmd.specs.declared.commands.Command.{Command}
use Rattle.gtp_cmd.specs.declared.commands.Command.TheVariants as command
use Rattle.gtp_cmd.specs.declared.commands.Parsed.{Parsed}
use Rattle.gtp_cmd.specs.declared.commands.Parsed.TheVariants as parsed
use Rattle.read_rules.specs.declared.question.Kind.{Kind}
use Rattle.read_rules.specs.declared.question.Kind.TheVariants.{Attack, Defend}
use Rattle.match_engine.specs.declared.keys.Key.{Key}
use Rattle.machine_rules.specs.Machine.{Machine, question_at}
use Rattle.machine_rules.specs.ChoiceCommands.{is_full}
use Rattle.machine_rules.specs.Counting.{has_stone}
use Rattle.machine_rules.specs.AnsweredLines.{AnsweredLine}

-- what is asked of the readings
pub data Asks : Type 0 where
  -- nothing
  Nothing : Asks
  -- one question
  One : Key → Asks
  -- what the classes and constraints of patterns ask
  Many : Asks

-- the key under which the reading of the string of a point is cached: its question
abbrev pub key_at : Machine → Kind → ℕ → Key
key_at machine kind p = record { question = question_at machine kind p }

-- what a question about the string of a point asks of the readings: one question if a stone stands there, else nothing
abbrev pub asks_at : Machine → Kind → ℕ → Asks
asks_at machine kind p = if has_stone machine p then One (key_at machine kind p) else Nothing

-- what a command asks of the readings
abbrev pub asks_of : Machine → Command → Asks
asks_of machine (command.Attack p) = asks_at machine Attack p
asks_of machine (command.Defend p) = asks_at machine Defend p
asks_of machine (command.MatchPatterns friend) = Many
asks_of machine (command.GenMove friend) = if is_full machine then Nothing else Many
asks_of machine (command.RegGenMove friend) = Many
asks_of machine _ = Nothing

-- what a parsed line asks of the readings
abbrev pub asks_of_parsed : Machine → Parsed → Asks
asks_of_parsed machine (parsed.Command id command) = asks_of machine command
asks_of_parsed machine _ = Nothing

-- what a line asks of the readings
unfoldable pub asks_of_line : Machine → RawLine → Asks
asks_of_line machine TooLong = Nothing
asks_of_line machine (Line text) = asks_of_parsed machine (parsed_of text machine.base.size)

-- no line asks for a reading or for matches
abbrev pub AskNothing : List (AnsweredLine Machine) → Type 0
AskNothing turns = All (λ turn. asks_of_line turn.machine turn.line ≡ Nothing) turns
