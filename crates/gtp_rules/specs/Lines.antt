-- A stream of bytes as protocol lines, after the GTP version 2 draft: the bytes are cut at line feeds. The limit on the
-- length of a line is this project's own.
use Rattle.std.specs.Prelude.{ℕ, List, [], ◌∷◌, ◌++◌, length, map, if◌then◌else◌, ◌==◌, nat_le}
use Rattle.std.specs.List.{slice_split}

-- the byte that ends a line
abbrev pub line_feed : ℕ
line_feed = 10

-- the most bytes that a line may have before its line feed
abbrev pub longest_line : ℕ
longest_line = 65536

-- a line: either its bytes without the line feed, or the fact that it has more bytes than a line may have
pub data RawLine : Type 0 where
  Line : List ℕ → RawLine
  TooLong : RawLine

-- the line that a text makes
abbrev pub line_of : List ℕ → RawLine
line_of text = if nat_le (length text) longest_line then Line text else TooLong

-- the texts that the bytes are cut into at their line feeds: one more than there are line feeds
abbrev pub texts_of : List ℕ → List (List ℕ)
texts_of bytes = slice_split (λ b. b == line_feed) bytes

-- the list without its last element
abbrev pub all_but_last : {X : Type 0} → List X → List X
all_but_last [] = []
all_but_last (x ∷ []) = []
all_but_last (x ∷ y ∷ ys) = x ∷ all_but_last (y ∷ ys)

-- the last text of the list, or no bytes if the list is empty
abbrev pub last_text : List (List ℕ) → List ℕ
last_text [] = []
last_text (x ∷ []) = x
last_text (x ∷ y ∷ ys) = last_text (y ∷ ys)

-- the texts that a line feed ends
abbrev pub ended_texts : List ℕ → List (List ℕ)
ended_texts bytes = all_but_last (texts_of bytes)

-- the bytes after the last line feed
abbrev pub rest_of : List ℕ → List ℕ
rest_of bytes = last_text (texts_of bytes)

-- the lines of the bytes that have their line feed
abbrev pub lines_of : List ℕ → List RawLine
lines_of bytes = map line_of (ended_texts bytes)

-- the rest as a last line, if the rest is not empty
abbrev pub rest_line : List ℕ → List RawLine
rest_line [] = []
rest_line (b ∷ bs) = line_of (b ∷ bs) ∷ []

-- the lines of the bytes that have their line feed, and then the bytes after the last line feed as a last line, if any
abbrev pub lines_with_rest : List ℕ → List RawLine
lines_with_rest bytes = lines_of bytes ++ rest_line (rest_of bytes)
