-- What the fields of a `Lines` stand for.
use Rattle.std.specs.Prelude.{true, false, [], None}
use Rattle.gtp_rules.specs.Lines.{RawLine, Line, line_of}
use Rattle.gtp_lex.specs.Lines.{LinesState, given_of}
use Rattle.gtp_lex.specs.declared.lines.Phase.{Phase}
use Rattle.gtp_lex.specs.declared.lines.Phase.TheVariants.{Open, Full, Given}
use Rattle.gtp_lex.specs.declared.lines.Lines.TheInside.{Inside}

-- what contracts see of a line in this phase
abbrev pub state_of : Phase → RawLine → LinesState
state_of Open held = record { held = held; waits = false; given = None }
state_of Full held = record { held = held; waits = true; given = None }
state_of Given held = record { held = Line []; waits = false; given = given_of held }

-- what contracts see of the fields
abbrev pub lines_view : Inside → LinesState
lines_view l = state_of l.phase (line_of l.bytes.items)
