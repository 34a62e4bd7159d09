-- The words of a text, as the GTP version 2 draft reads them from a line.
use Rattle.std.specs.Prelude.{ℕ, ◌==◌, ◌&&◌, ◌||◌, nat_le, Bool, true, false, not, List, [], ◌∷◌, map, filter, Option}
use Rattle.std.specs.Prelude.{None, Some, if◌then◌else◌}
use Rattle.std.specs.List.{slice_split, before_first, list_all}
use Rattle.std.specs.Char.{is_ascii_digit}
use Rattle.std.specs.Str.Parse.{digits_value}

-- the byte of a tab
abbrev pub tab : ℕ
tab = 9

-- the byte that ends a line
abbrev pub line_feed : ℕ
line_feed = 10

-- the byte of a blank
abbrev pub blank : ℕ
blank = 32

-- the byte that begins a comment
abbrev pub hash : ℕ
hash = 35

-- the control byte above the letters
abbrev pub delete : ℕ
delete = 127

-- the byte is kept: it is no control byte, or it is a tab or a line feed
abbrev pub is_kept : ℕ → Bool
is_kept b = (nat_le blank b && not (b == delete)) || (b == tab || b == line_feed)

-- the text without the bytes that are dropped
abbrev pub kept : List ℕ → List ℕ
kept text = filter is_kept text

-- the byte, with a blank in place of a tab
abbrev pub blank_for_tab : ℕ → ℕ
blank_for_tab b = if b == tab then blank else b

-- the text without the bytes that are dropped, with a blank in place of each tab
abbrev pub plain : List ℕ → List ℕ
plain text = map blank_for_tab (kept text)

-- the line as it is parsed into words: what stands before its first `#`, without the bytes that are dropped, with a
-- blank in place of each tab
abbrev pub cleaned : List ℕ → List ℕ
cleaned line = plain (before_first (λ b. b == hash) line)

-- the text is not empty
abbrev pub has_bytes : List ℕ → Bool
has_bytes [] = false
has_bytes (b ∷ bs) = true

-- the words of a text: the parts between its blanks that are not empty
abbrev pub words_of : List ℕ → List (List ℕ)
words_of text = filter has_bytes (slice_split (λ b. b == blank) text)

-- the word is not empty, and each of its bytes is a digit
abbrev pub is_number : List ℕ → Bool
is_number word = has_bytes word && list_all is_ascii_digit word

-- the number that a word of digits writes, of any length; None if the word is empty or has another byte
abbrev pub number_of : List ℕ → Option ℕ
number_of word = if is_number word then Some (digits_value 10 word) else None
