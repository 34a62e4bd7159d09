-- What a point holds after the values of a node, one after another.
use Rattle.std.proofs.Common.{◌≡◌, ℕ, ◌*◌, ◌<◌, Bool, true, false, cond, List, [], ◌∷◌, ◌++◌, Option, Some, None}
use Rattle.std.proofs.Common.{refl, arith, ◌||◌}
use Rattle.std.proofs.lemmas.List.FromFn.{get_or-map-range_with_len}
use Rattle.std.specs.List.{list_any}
use Rattle.go_rules.specs.declared.Cell.{Cell}
use Rattle.go_rules.specs.declared.Cell.TheVariants.{Empty}
use Rattle.go_rules.specs.Strings.{cell_at}
use Rattle.sgf_rules.specs.declared.area.Area.{Area}
use Rattle.sgf_rules.specs.declared.meaning.Meaning.TheVariants.{Size, Setup, Play}
use Rattle.sgf_rules.specs.Points.{is_in_area}
use Rattle.sgf_rules.specs.Uses.{Use}
use Rattle.sgf_rules.specs.Game.{is_in_some_area, sets, with_area, with_area_if, cells_after_use, cells_after_uses}

-- a point after a rectangle was set
area_point : (s p : ℕ) (cells : List Cell) (cell : Cell) (a : Area) → p < s * s
    → cell_at (with_area s cells cell a) p ≡ cond (is_in_area s a p) cell (cell_at cells p)
unfolding with_area
area_point s p cells cell a on =
    get_or-map-range_with_len (λ q. cond (is_in_area s a q) cell (cell_at cells q)) 0 (s * s) p p Empty on (omega arith)

-- the same, where there is a rectangle
some_area_point : (s p : ℕ) (cells : List Cell) (cell : Cell) (a : Option Area) → p < s * s
    → cell_at (with_area_if s cells cell a) p ≡ cond (is_in_some_area s a p) cell (cell_at cells p)
some_area_point s p cells cell None on = refl
some_area_point s p cells cell (Some a) on = area_point s p cells cell a on

-- a value that does not set the point leaves it
left_alone : (s p : ℕ) (cells : List Cell) (u : Use) → p < s * s → sets s p u ≡ false
    → cell_at (cells_after_use s cells u) p ≡ cell_at cells p
left_alone s p cells (Size, v) on e = refl
left_alone s p cells (Setup cell, v) on e = grind (arith, some_area_point)
left_alone s p cells (Play c, v) on e = refl

-- two tests of which none passes
neither : (x y : Bool) → (x || y) ≡ false → (x ≡ false) × (y ≡ false)
neither true y e = absurd (cc)
neither false y e = (refl, e)

-- values that do not set the point leave it
pub all_leave : (s p : ℕ) (cells : List Cell) (us : List Use) → p < s * s → list_any (sets s p) us ≡ false
    → cell_at (cells_after_uses s cells us) p ≡ cell_at cells p
unfolding cells_after_uses
all_leave s p cells [] on e = refl
all_leave s p cells (u ∷ us) on e = grind (arith, neither, left_alone, all_leave s p (cells_after_use s cells u) us on)

-- behind the last value that sets it a point holds what that says
pub last_sets : (s p : ℕ) (cells : List Cell) (us after : List Use) (cell : Cell) (v : List ℕ) → p < s * s
    → sets s p (Setup cell, v) ≡ true → list_any (sets s p) after ≡ false
    → cell_at (cells_after_uses s cells (us ++ (Setup cell, v) ∷ after)) p ≡ cell
unfolding cells_after_uses
last_sets s p cells [] after cell v on e none = grind (arith, all_leave, some_area_point)
last_sets s p cells (u ∷ us) after cell v on e none =
    last_sets s p (cells_after_use s cells u) us after cell v on e none
