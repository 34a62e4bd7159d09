-- What contracts see of a `Lines`.
use Rattle.std.specs.Prelude.{◌≡◌, ℕ, Bool, true, false, List, [], ◌∷◌, length, take, Option, None, Some}
use Rattle.gtp_rules.specs.Lines.{RawLine, Line, TooLong}
use Rattle.gtp_lex.specs.Held.{lines_from, held_from}

-- the line so far, whether its line feed has come and waits to be taken, and the bytes of the line that was given last
pub record LinesState : Type 0 where
  pub held : RawLine
  pub waits : Bool
  pub given : Option (List ℕ)

-- the bytes of a line, if the line is not too long
abbrev pub given_of : RawLine → Option (List ℕ)
given_of (Line text) = Some text
given_of TooLong = None

-- the state before any byte of a line
abbrev pub no_line : LinesState
no_line = record { held = Line []; waits = false; given = None }

-- count bytes of a piece were fed: the bytes up to and with its first line feed, or all bytes if it has none
pub record Feeds (old new : LinesState) (piece : List ℕ) (count : ℕ) : Type 0 where
  -- if a line feed came, it ends the line that is held
  pub ended : new.waits ≡ true
      → (lines_from old.held (take count piece) ≡ new.held ∷ []) × (held_from old.held (take count piece) ≡ Line [])
  -- if none came, the piece was taken whole
  pub open_ended : new.waits ≡ false
      → (count ≡ length piece) × (lines_from old.held piece ≡ []) × (held_from old.held piece ≡ new.held)
