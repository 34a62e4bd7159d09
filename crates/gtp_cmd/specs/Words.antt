-- The ids of protocol lines, after the GTP version 2 draft.
use Rattle.std.specs.Prelude.{ℕ, nat_le, List, Option, None, Some, if◌then◌else◌}
pub use Rattle.vertices.specs.Words.{tab, line_feed, blank, hash, is_kept, kept, blank_for_tab, plain, cleaned}
pub use Rattle.vertices.specs.Words.{has_bytes, words_of, is_number, number_of}

-- the greatest number of an id
abbrev pub most_id : ℕ
most_id = 2147483647

-- the number, if there is one and it is not above the bound
abbrev pub up_to : ℕ → Option ℕ → Option ℕ
up_to bound None = None
up_to bound (Some n) = if nat_le n bound then Some n else None

-- the id that a word writes: a number of digits alone, at most the greatest id
abbrev pub id_of : List ℕ → Option ℕ
id_of word = up_to most_id (number_of word)
