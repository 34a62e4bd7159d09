-- The stones of a board as sets of points, and the position that they set up.
use Rattle.std.proofs.Common.{◌≡◌, ℕ, ◌*◌, ◌<◌, true, false, cond, ◌&&◌, List, length, Option, Ok, Err}
use Rattle.std.proofs.Common.{MatchOption, ◌≤◌, take, refl, sym, ap, ◌∙◌, arith, nat_lt}
use Rattle.std.proofs.lemmas.Bool.{and_parts, ltb-true, lt-ltb, cases_Bool}
use Rattle.std.proofs.lemmas.List.{length-take-le}
use Rattle.std.proofs.lemmas.List.FromFn.{fill_by_all}
use Rattle.go_rules.specs.Board.{largest_points}
use Rattle.std.specs.FinSet as sets
use Rattle.std.specs.Ordering.{nat_cmp}
use Rattle.go_rules.specs.declared.Cell.{Cell}
use Rattle.go_rules.specs.declared.Cell.TheVariants.{Empty, Black, White}
use Rattle.go_rules.specs.Below.{set_below}
use Rattle.go_rules.specs.Strings.{cell_at, same_cell}
use Rattle.go_rules.specs.Position.{BoardState}
use Rattle.go_rules.proofs.Counts.{any_below_false}
use Rattle.go_rules.proofs.Sets.{contains-set_below}
use Rattle.go_base.specs.Setups.{cell_among, cells_with, have_common_point, setup_of}
use Rattle.sgf_rules.specs.declared.kind.FaultKind.TheVariants.{NoLiberty}
use Rattle.sgf_rules.specs.Game.{position_with}
use Rattle.go_base.proofs.Setups.{setup_dead, setup_done}

-- the points of a list of cells where a stone stands
abbrev pub stones_in : List Cell → Cell → sets.FinSet nat_cmp
stones_in cells stone = set_below (length cells) (λ p. same_cell (cell_at cells p) stone)

-- they are points of the list
pub stones_on_board : (cells : List Cell) (stone : Cell) (n p : ℕ) → length cells ≡ n
    → sets.contains (stones_in cells stone) p ≡ true → p < n
stones_on_board cells stone n p long h = grind (arith, and_parts, nat_lt, contains-set_below, ltb-true)

-- whether a stone stands at a point
stone_there : (cells : List Cell) (stone : Cell) (p : ℕ) → p < length cells
    → sets.contains (stones_in cells stone) p ≡ same_cell (cell_at cells p) stone
stone_there cells stone p on = grind (arith, contains-set_below, lt-ltb)

-- a cell is what its stones say
cell_again : (k : Cell) → k ≡ cond (same_cell k Black) Black (cond (same_cell k White) White Empty)
cell_again Empty = refl
cell_again Black = refl
cell_again White = refl

-- no cell holds both
never_both : (k : Cell) → (same_cell k Black && same_cell k White) ≡ false
never_both Empty = refl
never_both Black = refl
never_both White = refl

-- the cells are those with their stones
cells_again : (s : ℕ) (cells : List Cell) → length cells ≡ s * s
    → cells ≡ cells_with s (stones_in cells Black) (stones_in cells White)
unfolding cells_with
cells_again s cells long =
    fill_by_all (cell_among (stones_in cells Black) (stones_in cells White)) cells (s * s) Empty long (λ p on.
    let here : p < length cells = omega arith in
    cell_again (cell_at cells p)
    ∙ (ap (λ b. cond b Black (cond (same_cell (cell_at cells p) White) White Empty))
    (sym (stone_there cells Black p here))
    ∙ ap (λ b. cond (sets.contains (stones_in cells Black) p) Black (cond b White Empty))
    (sym (stone_there cells White p here))))

-- no point has both stones
apart : (s : ℕ) (cells : List Cell) → length cells ≡ s * s
    → have_common_point s (stones_in cells Black) (stones_in cells White) ≡ false
unfolding have_common_point
apart s cells long = grind (arith, any_below_false, stone_there, never_both)

-- what setting up the stones of cells answers
pub setup_answers : (s : ℕ) (cells : List Cell) (r : Option BoardState) → length cells ≡ s * s
    → r ≡ setup_of s (stones_in cells Black) (stones_in cells White)
    → MatchOption r (position_with s cells ≡ Err NoLiberty) (λ pos. position_with s cells ≡ Ok pos)
unfolding position_with
setup_answers s cells r long e = grind (arith, cells_again, cases_Bool, setup_dead, apart, setup_done)
