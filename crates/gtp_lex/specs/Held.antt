-- The lines of a stream from the front, with the part of a line that is held so far. The law
-- `pieces_give_the_lines_of_the_stream` says that these lines are the lines of the whole stream.
use Rattle.std.specs.Prelude.{ℕ, ◌+◌, List, [], ◌∷◌, ◌++◌, length, if◌then◌else◌, ◌==◌, nat_lt}
use Rattle.gtp_rules.specs.Lines.{RawLine, Line, TooLong, line_feed, longest_line}

-- the most bytes that are held of a line: one more than a line may have, which shows that it is too long
abbrev pub longest_held : ℕ
longest_held = longest_line + 1

-- the line so far, with one more byte, which is no line feed
abbrev pub longer : RawLine → ℕ → RawLine
longer TooLong b = TooLong
longer (Line text) b = if nat_lt (length text) longest_line then Line (text ++ b ∷ []) else TooLong

-- the lines that these bytes end, if held is the line so far
abbrev pub lines_from : RawLine → List ℕ → List RawLine
lines_from held [] = []
lines_from held (b ∷ bs) = if b == line_feed then held ∷ lines_from (Line []) bs else lines_from (longer held b) bs

-- the line so far after these bytes, if held is the line so far before them
abbrev pub held_from : RawLine → List ℕ → RawLine
held_from held [] = held
held_from held (b ∷ bs) = if b == line_feed then held_from (Line []) bs else held_from (longer held b) bs

-- the line so far as a last line, if it is not empty
abbrev pub held_line : RawLine → List RawLine
held_line TooLong = TooLong ∷ []
held_line (Line []) = []
held_line (Line (b ∷ bs)) = Line (b ∷ bs) ∷ []

-- the lines that these pieces end, one piece after another
abbrev pub lines_in_turn : RawLine → List (List ℕ) → List RawLine
lines_in_turn held [] = []
lines_in_turn held (piece ∷ pieces) = lines_from held piece ++ lines_in_turn (held_from held piece) pieces

-- the line so far after these pieces
abbrev pub held_after : RawLine → List (List ℕ) → RawLine
held_after held [] = held
held_after held (piece ∷ pieces) = held_after (held_from held piece) pieces
