-- What the derived == of cells and colours answers.
use Rattle.std.proofs.Common.{◌≡◌, Bool, true, false, not, refl, sym, ◌∙◌}
use Rattle.std.proofs.lemmas.Bool.{both_ways, not-false}
use denote.Enum.Bare.{sameb}
use Rattle.go_rules.specs.contracts.Cell.{the_type}
use Rattle.go_rules.specs.declared.Cell.{Cell}
use Rattle.go_rules.specs.declared.Cell.TheVariants.{Empty, Black, White}
use Rattle.go_rules.specs.Strings.{same_cell, is_stone}
use Rattle.go_rules.proofs.Paths.{same_cell-true, same_cell-from}

-- the derived == of cells is the test of the definitions
pub eq_is_same_cell : (a b : Cell) → sameb the_type a b ≡ same_cell a b
eq_is_same_cell Empty Empty = refl
eq_is_same_cell Empty Black = refl
eq_is_same_cell Empty White = refl
eq_is_same_cell Black Empty = refl
eq_is_same_cell Black Black = refl
eq_is_same_cell Black White = refl
eq_is_same_cell White Empty = refl
eq_is_same_cell White Black = refl
eq_is_same_cell White White = refl

-- cells that compare as equal are equal
pub cells_same : (a b : Cell) (r : Bool) → r ≡ sameb the_type a b → r ≡ true → a ≡ b
cells_same a b r e t = same_cell-true a b (sym (e ∙ eq_is_same_cell a b) ∙ t)

-- cells that compare as different differ
pub cells_differ : (a b : Cell) (r : Bool) → r ≡ sameb the_type a b → r ≡ false → a ≡ b → ⊥
cells_differ a b r e f h = both_ways r f (e ∙ eq_is_same_cell a b ∙ same_cell-from a b h)

-- cells that do not compare as different hold the same
pub ne_false_same : (a b : Cell) (r : Bool) → r ≡ not (sameb the_type a b) → r ≡ false → same_cell a b ≡ true
ne_false_same a b r e f = sym (eq_is_same_cell a b) ∙ not-false (sameb the_type a b) (sym e ∙ f)

-- the code's test for a stone
pub stone_test : (k : Cell) → not (sameb the_type k Empty) ≡ is_stone k
stone_test Empty = refl
stone_test Black = refl
stone_test White = refl
