-- The arguments of a constraint that have a point have one on the board.
use Rattle.std.proofs.Common.{◌≡◌, ℕ, ◌+◌, ◌*◌, ◌<◌, true, Option, Some, None, refl}
use Rattle.std.proofs.Common.{ℤ, pos, negsuc, ◌+ℤ◌, ◌-ℤ◌, ◌/◌, ◌%◌, arith}
use Rattle.std.proofs.lemmas.Nat.{mul-add-lt}
use Rattle.std.proofs.lemmas.Bool.{lt-ltb, ltb-true}
use Rattle.std.proofs.lemmas.Option.{none-some, same_Some}
use Rattle.go_rules.specs.Position.{BoardState}
use Rattle.go_rules.specs.Transform.{Offset, transformed}
use Rattle.go_rules.specs.declared.Colour.{Colour}
use Rattle.spiral.specs.Spiral.{strip_of, point_of, place_at}
use Rattle.pat_types.specs.declared.pattern.Pattern.{Pattern}
use Rattle.pat_types.specs.declared.pattern.LabelAt.{LabelAt}
use Rattle.pat_types.specs.declared.expr.Arg.{Arg}
use Rattle.pat_types.specs.declared.expr.Arg.TheVariants.{Label, Star, Nowhere}
use Rattle.pat_types.specs.declared.expr.Expr.{Expr}
use Rattle.cons_eval.specs.Readings.{Codes}
use Rattle.cons_eval.specs.Meanings.{is_on_board, are_placed}
use Rattle.cons_eval.proofs.Callers.{all_placed}
use Rattle.match_rules.specs.Conditions.{label_with, place_of_label, place_of_argument, meanings_at}

-- a row or column that is there is one of the board's
strip_below : (s n : ℕ) (z : ℤ) → strip_of s z ≡ Some n → n < s
strip_below s n (pos k) e = grind (arith, same_Some, ltb-true, none-some)
strip_below s n (negsuc k) e = absurd (none-some n e)

-- a row and a column of the board meet on it
meet_on : (s : ℕ) (row column : Option ℕ) → ((n : ℕ) → row ≡ Some n → n < s) → ((n : ℕ) → column ≡ Some n → n < s)
    → is_on_board s (point_of s row column) ≡ true
meet_on s None column low_row low_column = refl
meet_on s (Some r) None low_row low_column = refl
meet_on s (Some r) (Some k) low_row low_column =
    lt-ltb (r * s + k) (s * s) (mul-add-lt r s k s (low_row r refl) (low_column k refl))

-- where an offset leads is on the board
placed_on : (s t m : ℕ) (d : Offset) → is_on_board s (place_at s t m d) ≡ true
unfolding place_at
placed_on s t m d =
    meet_on s (strip_of s (pos (m / s) +ℤ (transformed t d).0)) (strip_of s (pos (m % s) +ℤ (transformed t d).1))
    (λ n. strip_below s n _) (λ n. strip_below s n _)

module _ (p : Pattern) (s t m : ℕ) (star : m < s * s) where
  -- a label that lies on the board has its point there
  label_on : (o : Option LabelAt) → is_on_board s (place_of_label p s t m o) ≡ true
  label_on None = refl
  label_on (Some l) = placed_on s t m (pos l.row -ℤ pos p.star.0, pos l.col -ℤ pos p.star.1)

  -- so has each argument
  argument_on : (a : Arg) → is_on_board s (place_of_argument p s t m a) ≡ true
  argument_on (Label letter) = label_on (label_with letter p.labels)
  argument_on Star = lt-ltb m (s * s) star
  argument_on Nowhere = refl

module _ (code : Codes) (p : Pattern) (board : BoardState) (friend : Colour) (t m : ℕ)
    (star : m < board.size * board.size) where
  -- all arguments of an expression are placed
  pub constraint_placed : (e : Expr) → are_placed (meanings_at code p board friend t m) e ≡ true
  constraint_placed e = all_placed (meanings_at code p board friend t m) e (argument_on p board.size t m star)
