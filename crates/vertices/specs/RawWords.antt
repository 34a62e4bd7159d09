-- Words as they stand in a text, with the bytes that are dropped still in them.
use Rattle.std.specs.Prelude.{ℕ, ◌==◌, ◌||◌, Bool, true, false, not, min, Option, None, Some}
use Rattle.std.specs.Char.{to_ascii_lowercase}
use Rattle.vertices.specs.Words.{is_kept, blank, tab}

-- the byte separates words: it is a blank or a tab
abbrev pub is_parting : ℕ → Bool
is_parting b = (b == blank) || (b == tab)

-- no word begins with the byte: it is dropped, or it separates words
abbrev pub is_skipped : ℕ → Bool
is_skipped b = not (is_kept b) || is_parting b

-- the byte, in lower case if the flag says so
abbrev pub cased : Bool → ℕ → ℕ
cased true b = to_ascii_lowercase b
cased false b = b

-- the number that stands for itself and every larger number, since no number that is asked for is as large
abbrev pub large : ℕ
large = 2147483648

-- the number, or large if the number is larger
abbrev pub capped : Option ℕ → Option ℕ
capped None = None
capped (Some n) = Some (min n large)
