-- What `take` and `finish` answer, and the state after them.
use Rattle.std.specs.Prelude.{[], false}
use Rattle.gtp_rules.specs.Lines.{RawLine, Line, TooLong}
use Rattle.gtp_lex.specs.Lines.{LinesState, given_of}
use Rattle.gtp_lex.specs.declared.lines.Taken.{Taken}
use Rattle.gtp_lex.specs.declared.lines.Taken.TheVariants as taken

-- the answer for a line
abbrev pub taken_of : RawLine → Taken
taken_of (Line text) = taken.Line
taken_of TooLong = taken.TooLong

-- the state after this line was given, when nothing of the next line has come
abbrev pub given_state : RawLine → LinesState
given_state held = record { held = Line []; waits = false; given = given_of held }
