-- Whether a point is walled in, by the points at its sides.
use Rattle.std.proofs.Common.{◌≡◌, ℕ, ◌*◌, ◌<◌, ◌≤◌, ◌&&◌, true, false, not, List, Some, ap}
use Rattle.std.proofs.Common.{arith}
use Rattle.std.proofs.lemmas.Bool.{cases_Bool, and_from, not_from_false}
use Rattle.go_rules.specs.declared.Cell.{Cell}
use Rattle.go_rules.specs.declared.Colour.{Colour}
use Rattle.go_rules.specs.Board.{are_neighbours}
use Rattle.go_rules.specs.Position.{stone_of}
use Rattle.go_rules.specs.Strings.{cell_at, same_cell}
use Rattle.go_rules.proofs.Counts.{any_below_from, any_below_false}
use Rattle.go_base.specs.Sides.{neighbour_at}
use Rattle.go_base.proofs.SidesOfPoints.{neighbour_at-near, neighbour_at-all}
use Rattle.read_rules.specs.GameTree.{is_walled_in}

module _ (s : ℕ) (cells : List Cell) (t : ℕ) (c : Colour) (on : t < s * s) where
  -- a point is not walled in if a side holds no stone of the colour
  pub not_walled : (side q : ℕ) → neighbour_at s t side ≡ Some q → same_cell (cell_at cells q) (stone_of c) ≡ false
      → is_walled_in s cells t c ≡ false
  not_walled side q at other =
      let near = neighbour_at-near s t side q on at in
      ap not (any_below_from (s * s)
      (λ r. are_neighbours s t r && not (same_cell (cell_at cells r) (stone_of c))) q near.0
      (and_from _ _ near.1 (not_from_false _ other)))

  -- it is if each side holds one
  pub walled : (n : ℕ) → 4 ≤ n
      → ((k q : ℕ) → k < n → neighbour_at s t k ≡ Some q → same_cell (cell_at cells q) (stone_of c) ≡ true)
      → is_walled_in s cells t c ≡ true
  walled n four each = grind (arith, not_from_false, any_below_false, cases_Bool, neighbour_at-all)
