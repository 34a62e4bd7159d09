-- What a line asks about a connection.
use Rattle.std.specs.Prelude.{ℕ, Bool, ◌&&◌, List, Option, Some, None, count_by, is_some, if◌then◌else◌}
use Rattle.go_rules.specs.Strings.{cell_at, same_cell}
use Rattle.gtp_rules.specs.Lines.{RawLine, Line, TooLong}
use Rattle.gtp_cmd.specs.Commands.{parsed_of}
use Rattle.gtp_cmd.specs.declared.commands.Command.{Command}
use Rattle.gtp_cmd.specs.declared.commands.Command.TheVariants as command
use Rattle.gtp_cmd.specs.declared.commands.Parsed.{Parsed}
use Rattle.gtp_cmd.specs.declared.commands.Parsed.TheVariants as parsed
use Rattle.connect_rules.specs.declared.question.LinkKind.{LinkKind}
use Rattle.connect_rules.specs.declared.question.LinkKind.TheVariants.{Connect, Disconnect}
use Rattle.connect_rules.specs.declared.question.LinkQuestion.{LinkQuestion}
use Rattle.connect_rules.specs.Linkages.{asked_on}
use Rattle.machine_rules.specs.Counting.{has_stone}
use Rattle.machine_rules.specs.Machine.{Machine, position_of}
use Rattle.machine_rules.specs.AnsweredLines.{AnsweredLine}

-- stones of one colour stand at both points, so that a question about their strings is answered with a result
abbrev pub have_one_colour : Machine → ℕ → ℕ → Bool
have_one_colour machine a b = has_stone machine a && (has_stone machine b
    && same_cell (cell_at (position_of machine).cells a) (cell_at (position_of machine).cells b))

-- the question about the strings of two points of the machine's position, as deep as the machine says, if stones of one
-- colour stand there
abbrev pub asks_link_at : Machine → LinkKind → ℕ → ℕ → Option LinkQuestion
asks_link_at machine kind a b =
    if have_one_colour machine a b then Some (asked_on (position_of machine) kind a b machine.depths.plies) else None

-- the question about a connection that a command asks, if it asks one
abbrev pub asks_link_of : Machine → Command → Option LinkQuestion
asks_link_of machine (command.Connect a b) = asks_link_at machine Connect a b
asks_link_of machine (command.Disconnect a b) = asks_link_at machine Disconnect a b
asks_link_of machine _ = None

-- the question about a connection that a parsed line asks, if it asks one
abbrev pub asks_link_of_parsed : Machine → Parsed → Option LinkQuestion
asks_link_of_parsed machine (parsed.Command id command) = asks_link_of machine command
asks_link_of_parsed machine _ = None

-- the question about a connection that a line asks, if it asks one
unfoldable pub asks_link_of_line : Machine → RawLine → Option LinkQuestion
asks_link_of_line machine TooLong = None
asks_link_of_line machine (Line text) = asks_link_of_parsed machine (parsed_of text machine.base.size)

-- how many of the lines ask about a connection and are answered with a result
abbrev pub connections_in : List (AnsweredLine Machine) → ℕ
connections_in turns = count_by (λ turn. is_some (asks_link_of_line turn.machine turn.line)) turns
