-- What a search for liberties finds that stops once it sees many.
use Rattle.std.specs.Prelude.{◌≡◌, ℕ, ◌<◌, ◌≤◌, List}
use Rattle.std.specs.Ordering.{nat_cmp}
use Rattle.std.specs.FinSet as set
use Rattle.go_rules.specs.declared.Cell.{Cell}
use Rattle.go_rules.specs.Strings.{liberties, liberty_points}

-- found has the liberties of the string of p, or more points than `most`; in the second case the string has more
-- liberties than `most` too
pub record FindsLiberties (s : ℕ) (cells : List Cell) (p most : ℕ) (found : set.FinSet nat_cmp) : Type 0 where
  pub all : set.len found ≤ most → found ≡ liberty_points s cells p
  pub more : most < set.len found → most < liberties s cells p
