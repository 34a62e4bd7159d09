-- The empty board as it is kept.
use Rattle.std.proofs.Common.{◌≡◌, ℕ, zero, suc, ◌*◌, ◌≤◌, List, take, replicate, None, refl, ap, ◌∙◌, arith}
use Rattle.std.proofs.lemmas.List.{length-replicate, take-replicate, drop-replicate}
use Rattle.std.proofs.lemmas.Bool.{both_ways}
use Rattle.go_rules.specs.Board.{smallest_size, largest_size, largest_points}
use Rattle.go_rules.specs.declared.Cell.{Cell}
use Rattle.go_rules.specs.declared.Cell.TheVariants.{Empty}
use Rattle.go_rules.specs.Strings.{cell_at}
use Rattle.go_rules.specs.Position.{IsPosition}
use Rattle.go_base.specs.Positions.{HoldsPosition}
use Rattle.go_base.proofs.SidesOfPoints.{square_small}

-- a board of empty points is empty at each point
at_replicate : (n p : ℕ) → cell_at (replicate n Empty) p ≡ Empty
at_replicate zero p = refl
at_replicate (suc n) zero = refl
at_replicate (suc n) (suc p) = at_replicate n p

-- the empty board is a position
pub empty_position : (s : ℕ) → smallest_size ≤ s → s ≤ largest_size
    → IsPosition (record { size = s; cells = replicate (s * s) Empty; ban = None })
empty_position s low high = grind (arith, length-replicate, both_ways, at_replicate)

-- the cells of the empty board are empty
pub view_empty : (s : ℕ) (cells : List Cell) → s ≤ largest_size → cells ≡ replicate largest_points Empty
    → take (s * s) cells ≡ replicate (s * s) Empty
view_empty s cells high e = ap (take (s * s)) e ∙ take-replicate (s * s) largest_points Empty (square_small s high)

-- and so is the rest of its array
pub HoldsPosition-empty : (s : ℕ) (cells : List Cell) → smallest_size ≤ s → s ≤ largest_size
    → cells ≡ replicate largest_points Empty → HoldsPosition (record { size = s; ban = None; cells = cells })
HoldsPosition-empty s cells low high e =
    grind (arith, view_empty s cells high e, empty_position s low high, drop-replicate (s * s) largest_points Empty)
