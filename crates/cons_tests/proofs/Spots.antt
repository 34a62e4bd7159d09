-- Where the points of the rows lie.
use Rattle.std.proofs.Common.{◌≡◌, ℕ, ◌*◌, ◌<◌, Bool, true, false, cond, eqb, Option, Some, None, refl}
use Rattle.std.proofs.lemmas.Bool.{lt-ltb}
use Rattle.pat_types.specs.declared.expr.Arg.{Arg}
use Rattle.pat_types.specs.declared.expr.Arg.TheVariants.{Label, Star, Nowhere}
use Rattle.cons_eval.specs.Meanings.{is_on_board}
use Rattle.cons_tests.specs.LibertyCodes.{spot}

-- of two that are on the board, the chosen one is
chosen : (s : ℕ) (t : Bool) (o p : Option ℕ) → is_on_board s o ≡ true → is_on_board s p ≡ true
    → is_on_board s (cond t o p) ≡ true
chosen s true o p h k = h
chosen s false o p h k = k

-- each argument that has a point has one on the board, where the three points lie on it
pub spots_on_board : (s star a b : ℕ) → star < s * s → a < s * s → b < s * s → (arg : Arg)
    → is_on_board s (spot star a b arg) ≡ true
spots_on_board s star a b h k l (Label letter) =
    chosen s (eqb letter 65) (Some a) (cond (eqb letter 66) (Some b) None) (lt-ltb a (s * s) k)
    (chosen s (eqb letter 66) (Some b) None (lt-ltb b (s * s) l) refl)
spots_on_board s star a b h k l Star = lt-ltb star (s * s) h
spots_on_board s star a b h k l Nowhere = refl
