-- The stones of a string, as a set.
use Rattle.std.proofs.Common.{◌≡◌, ℕ, ◌*◌, ◌<◌, List, arith}
use Rattle.std.proofs.lemmas.Bool.{lt-ltb}
use Rattle.std.specs.FinSet as set
use Rattle.go_rules.specs.declared.Cell.{Cell}
use Rattle.go_rules.specs.Strings.{string_at, is_in_string}
use Rattle.go_rules.proofs.Sets.{contains-set_below}

-- a point of the board is in the set of a string exactly if it is a stone of the string
pub contains-string_at : (s : ℕ) (cells : List Cell) (a b : ℕ) → b < s * s
    → set.contains (string_at s cells a) b ≡ is_in_string s cells a b
unfolding string_at
contains-string_at s cells a b h = grind (arith, contains-set_below, lt-ltb)
