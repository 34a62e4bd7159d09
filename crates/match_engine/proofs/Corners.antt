-- A diagram lies on the board where two opposite corners do.
use Rattle.std.proofs.Common.{◌≡◌, ℕ, ◌-◌, ◌<◌, Bool, true, false, Option, Some, None, is_some, refl, sym, ap, ◌∙◌}
use Rattle.std.proofs.Common.{arith, cond, pos, ◌+ℤ◌, ◌-ℤ◌}
use Rattle.std.specs.List.{list_all, range_with_len}
use Rattle.std.proofs.lemmas.Bool.{false≢true}
use Rattle.std.proofs.lemmas.Int.{ints}
use Rattle.go_rules.specs.Transform.{transformations}
use Rattle.go_rules.proofs.Tests.{same_tests}
use Rattle.spiral.specs.Spiral.{place_at}
use Rattle.pat_types.specs.declared.pattern.Pattern.{Pattern}
use Rattle.pat_types.specs.Cells.{anchor_of}
use Rattle.match_rules.specs.Fits.{place_of_cell}
use Rattle.match_engine.specs.AutomatonMatches.{lies_on_board}
use Rattle.match_engine.specs.Found.{place_of_star, star_if_whole}
use Rattle.match_rules.proofs.Lists.{passes_each, passes_all, Contains-below, Contains-below_from}
use Rattle.match_engine.proofs.Places.{placed_between, place_at-sum}

-- an option that is there has a value
pub some_value : {X : Type 0} (o : Option X) → is_some o ≡ true → (x : X) × (o ≡ Some x)
some_value None e = absurd (false≢true e)
some_value (Some x) e = (x, refl)

module _ (p : Pattern) (s t m : ℕ) where
  -- a letter's cell lies on the board
  abbrev is_on : ℕ → ℕ → Bool
  is_on r c = is_some (place_of_cell p s t m (pos r) (pos c))

  -- each letter of a diagram that lies on the board does
  pub on_each : lies_on_board p s t m ≡ true → (r c : ℕ) → r < p.rows → c < p.cols → is_on r c ≡ true
  on_each all r c low low' =
      passes_each (λ k. is_on r k) (range_with_len 0 p.cols)
      (passes_each (λ k. list_all (is_on k) (range_with_len 0 p.cols)) (range_with_len 0 p.rows) all r
      (Contains-below_from p.rows r low))
      c (Contains-below_from p.cols c low')

  -- a diagram lies on the board where each of its letters does
  pub on_all : ((r c : ℕ) → r < p.rows → c < p.cols → is_on r c ≡ true) → lies_on_board p s t m ≡ true
  on_all each =
      passes_all (λ k. list_all (is_on k) (range_with_len 0 p.cols)) (range_with_len 0 p.rows)
      (λ r there. passes_all (is_on r) (range_with_len 0 p.cols)
      (λ c here. each r c (Contains-below p.rows r there) (Contains-below p.cols c here)))

  -- where the first and the last letter lie on the board, each does
  between_corners : t < transformations → is_on 0 0 ≡ true → is_on (p.rows - 1) (p.cols - 1) ≡ true → (r c : ℕ)
      → r < p.rows → c < p.cols → is_on r c ≡ true
  between_corners low first last r c row column =
      let a = some_value (place_of_cell p s t m (pos 0) (pos 0)) first in
      let b = some_value (place_of_cell p s t m (pos (p.rows - 1)) (pos (p.cols - 1))) last in
      let found = placed_between s t m a.0 b.0 (pos 0 -ℤ pos p.star.0, pos 0 -ℤ pos p.star.1) (
        pos r -ℤ pos p.star.0,
        pos c -ℤ pos p.star.1,
      ) (pos (p.rows - 1) -ℤ pos p.star.0, pos (p.cols - 1) -ℤ pos p.star.1)
      low a.1 b.1 (record {
        above = omega (arith, ints);
        below = omega (arith, ints, row);
        left = omega (arith, ints);
        right = omega (arith, ints, column);
      }) in
      ap is_some found.1

  -- where the first letter does not, the diagram does not
  pub first_decides : is_on 0 0 ≡ false → false ≡ lies_on_board p s t m
  first_decides first = grind (arith, same_tests, false≢true, on_each)

-- the place of the cell in row r and column c of the diagram, with the anchor's cell at a under t
abbrev pub from_anchor : Pattern → ℕ → ℕ → ℕ → ℕ → ℕ → Option ℕ
from_anchor p s t a r c = place_at s t a (pos r -ℤ pos (anchor_of p).0, pos c -ℤ pos (anchor_of p).1)

module _ (p : Pattern) (s t a : ℕ) (low : t < transformations) where
  -- with the star where the anchor has it, each cell lies where the anchor has it
  cell_from_anchor : (m r c : ℕ) → place_of_star p s t a ≡ Some m
      → place_of_cell p s t m (pos r) (pos c) ≡ from_anchor p s t a r c
  cell_from_anchor m r c star =
      let row : (pos p.star.0 -ℤ pos (anchor_of p).0) +ℤ (pos r -ℤ pos p.star.0) ≡ pos r -ℤ pos (anchor_of p).0 =
      omega (arith, ints) in
      let column : (pos p.star.1 -ℤ pos (anchor_of p).1) +ℤ (pos c -ℤ pos p.star.1) ≡ pos c -ℤ pos (anchor_of p).1 =
      omega (arith, ints) in
      place_at-sum s t a (pos p.star.0 -ℤ pos (anchor_of p).0, pos p.star.1 -ℤ pos (anchor_of p).1)
      (pos r -ℤ pos p.star.0, pos c -ℤ pos p.star.1) m low star
      ∙ ap (place_at s t a) (λ i. (row i, column i))

  -- if the first letter lies off the board, the diagram is not whole
  pub broken_first : (o : Option ℕ) → place_of_star p s t a ≡ o → from_anchor p s t a 0 0 ≡ None
      → None ≡ star_if_whole p s t o
  broken_first None star off = refl
  broken_first (Some m) star off = grind (arith, first_decides, cell_from_anchor)

  -- if the last letter lies off the board, the diagram is not whole
  pub broken_last : (o : Option ℕ) → place_of_star p s t a ≡ o → from_anchor p s t a (p.rows - 1) (p.cols - 1) ≡ None
      → None ≡ star_if_whole p s t o
  broken_last None star off = refl
  broken_last (Some m) star off =
      ap (λ b. cond b (Some m) None)
      (same_tests false (lies_on_board p s t m) (λ e. absurd (false≢true e))
      (λ all. ap is_some (sym (cell_from_anchor m (p.rows - 1) (p.cols - 1) star ∙ off))
      ∙ on_each p s t m all (p.rows - 1) (p.cols - 1) (omega (arith, p.diagram.rows_from))
      (omega (arith, p.diagram.columns_from))))

  -- where both lie on the board, it is whole
  pub whole_between : (o : Option ℕ) (x y : ℕ) → place_of_star p s t a ≡ o → from_anchor p s t a 0 0 ≡ Some x
      → from_anchor p s t a (p.rows - 1) (p.cols - 1) ≡ Some y → o ≡ star_if_whole p s t o
  whole_between None x y star first last = refl
  whole_between (Some m) x y star first last =
      grind (arith, cell_from_anchor, same_tests, on_all, between_corners, on_each)
