-- A set of points kept as bits.
use Rattle.std.specs.Prelude.{◌≡◌, ℕ, ◌+◌, ◌/◌, ◌%◌, ◌==◌, ◌<◌, Bool, IsTrue, List, slice_index}
use Rattle.std.specs.Int.{bit_at}
use Rattle.std.specs.Ordering.{nat_cmp}
use Rattle.std.specs.FinSet as set
use Rattle.go_rules.specs.Board.{largest_points}
use Rattle.go_rules.specs.Below.{set_below, count_below}

-- how many words of 64 bits hold a bit for each point of the largest board
abbrev pub set_words : ℕ
set_words = (largest_points + 63) / 64

-- point q is in the set that the words keep: bit q % 64 of word q / 64 is set
abbrev pub is_marked : List ℕ → ℕ → Bool
is_marked words q = bit_at (slice_index words (q / 64)) (q % 64) == 1

-- how many of the 64 bits of a word are set
unfoldable pub bits_set : ℕ → ℕ
bits_set word = count_below 64 (λ k. bit_at word k == 1)

-- the set that the words keep
unfoldable pub marked : List ℕ → set.FinSet nat_cmp
marked words = set_below largest_points (is_marked words)

-- used notes the words that mark a point: each marked point is a point of the largest board, and bit i of used is set
-- exactly if word i marks a point
pub record IsNoteOf (words : List ℕ) (used : ℕ) : Type 0 where
  pub on_board : (q : ℕ) → IsTrue (is_marked words q) → q < largest_points
  pub noted : (q : ℕ) → IsTrue (is_marked words q) → bit_at used (q / 64) ≡ 1
  pub only : (i : ℕ) → bit_at used i ≡ 1 → (q : ℕ) × (q / 64 ≡ i) × IsTrue (is_marked words q)
