-- Liberties, counted by their set.
use Rattle.std.proofs.Common.{◌≡◌, ℕ, ◌*◌, List}
use Rattle.std.specs.FinSet as sets
use Rattle.go_rules.specs.declared.Cell.{Cell}
use Rattle.go_rules.specs.Strings.{is_liberty, liberty_points, liberties}
use Rattle.go_rules.proofs.Sets.{len-set_below}

-- a string has as many liberties as the set of its liberties has points
pub len-liberty_points : (s : ℕ) (cells : List Cell) (p : ℕ) → sets.len (liberty_points s cells p) ≡ liberties s cells p
unfolding liberty_points liberties
len-liberty_points s cells p = len-set_below (s * s) (is_liberty s cells p)
