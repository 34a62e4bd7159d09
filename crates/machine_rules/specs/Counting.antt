-- What a session counts.
use Rattle.std.specs.Prelude.{ℕ, ◌+◌, ◌-◌, ◌^◌, min, Bool, false, List, count_by, if◌then◌else◌}
use Rattle.go_rules.specs.Strings.{cell_at, is_stone}
use Rattle.gtp_rules.specs.Lines.{RawLine, Line, TooLong}
use Rattle.gtp_cmd.specs.Commands.{parsed_of}
use Rattle.gtp_cmd.specs.declared.commands.Command.{Command}
use Rattle.gtp_cmd.specs.declared.commands.Command.TheVariants as command
use Rattle.gtp_cmd.specs.declared.commands.Parsed.{Parsed}
use Rattle.gtp_cmd.specs.declared.commands.Parsed.TheVariants as parsed
use Rattle.machine_rules.specs.Machine.{Machine, position_of}
use Rattle.machine_rules.specs.AnsweredLines.{AnsweredLine}

-- a stone stands at the point, so that a question about it is answered with a code
abbrev pub has_stone : Machine → ℕ → Bool
has_stone machine p = is_stone (cell_at (position_of machine).cells p)

-- whether the command asks for a reading and is answered with a code
abbrev pub is_read : Machine → Command → Bool
is_read machine (command.Attack p) = has_stone machine p
is_read machine (command.Defend p) = has_stone machine p
is_read machine _ = false

-- whether a parsed line asks for a reading and is answered with a code
abbrev pub is_parsed_read : Machine → Parsed → Bool
is_parsed_read machine (parsed.Command id command) = is_read machine command
is_parsed_read machine _ = false

-- whether a line asks for a reading and is answered with a code
unfoldable pub is_read_line : Machine → RawLine → Bool
is_read_line machine TooLong = false
is_read_line machine (Line text) = is_parsed_read machine (parsed_of text machine.base.size)

-- how many of the lines ask for a reading and are answered with a code
abbrev pub readings_in : List (AnsweredLine Machine) → ℕ
readings_in turns = count_by (λ turn. is_read_line turn.machine turn.line) turns

-- the count plus one if there is one more, else the count; counting stops at the greatest value of a u64
abbrev pub counted : ℕ → Bool → ℕ
counted n more = if more then min (n + 1) (2 ^ 64 - 1) else n
