-- The arguments of a constraint that have a point have one on the board.
use Rattle.std.proofs.Common.{◌≡◌, ℕ, ◌*◌, ◌<◌, true, Option, Some, None, refl, arith}
use Rattle.std.proofs.lemmas.Bool.{lt-ltb}
use Rattle.go_rules.specs.Position.{BoardState}
use Rattle.go_rules.specs.declared.Colour.{Colour}
use Rattle.pat_types.specs.declared.pattern.Pattern.{Pattern}
use Rattle.pat_types.specs.declared.pattern.LabelAt.{LabelAt}
use Rattle.pat_types.specs.declared.expr.Arg.{Arg}
use Rattle.pat_types.specs.declared.expr.Arg.TheVariants.{Label, Star, Nowhere}
use Rattle.pat_types.specs.declared.expr.Expr.{Expr}
use Rattle.cons_eval.specs.Readings.{Codes}
use Rattle.cons_eval.specs.Meanings.{is_on_board, are_placed}
use Rattle.cons_eval.proofs.Callers.{all_placed}
use Rattle.match_rules.specs.Conditions.{label_with, place_of_label, place_of_argument, meanings_at}
use Rattle.match_engine.proofs.Places.{placed_on}

-- a point that is there is on the board
on_if_there : (s : ℕ) (o : Option ℕ) → ((q : ℕ) → o ≡ Some q → q < s * s) → is_on_board s o ≡ true
on_if_there s None on = refl
on_if_there s (Some q) on = lt-ltb q (s * s) (on q refl)

module _ (p : Pattern) (s t m : ℕ) (star : m < s * s) where
  -- a label that lies on the board has its point there
  label_on : (o : Option LabelAt) → is_on_board s (place_of_label p s t m o) ≡ true
  label_on None = refl
  label_on (Some l) = grind (arith, on_if_there, placed_on)

  -- so has each argument
  argument_on : (a : Arg) → is_on_board s (place_of_argument p s t m a) ≡ true
  argument_on (Label letter) = label_on (label_with letter p.labels)
  argument_on Star = lt-ltb m (s * s) star
  argument_on Nowhere = refl

module _ (code : Codes) (p : Pattern) (board : BoardState) (friend : Colour) (t m : ℕ)
    (star : m < board.size * board.size) where
  -- all arguments of an expression are placed
  pub constraint_placed : (e : Expr) → are_placed (meanings_at code p board friend t m) e ≡ true
  constraint_placed e = all_placed (meanings_at code p board friend t m) e (argument_on p board.size t m star)
