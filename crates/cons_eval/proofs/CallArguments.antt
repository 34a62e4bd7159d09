-- The points of a call's arguments are on the board.
use Rattle.std.proofs.Common.{◌≡◌, ℕ, ◌*◌, ◌<◌, true, List, [], ◌∷◌, map, Option, Some, None, arith}
use Rattle.std.proofs.lemmas.Option.{same_Some}
use Rattle.std.proofs.lemmas.Bool.{ltb-true}
use Rattle.pat_types.specs.declared.expr.Arg.{Arg}
use Rattle.cons_eval.specs.Meanings.{is_on_board, are_on_board}
use Rattle.cons_eval.specs.Values.{only_point, both_points, two_points}
use Rattle.cons_eval.proofs.Parts.{first_of, second_of}

-- a point that an argument has is on the board
on_board_at : (s : ℕ) (o : Option ℕ) (a : ℕ) → o ≡ Some a → is_on_board s o ≡ true → a < s * s
on_board_at s None a e h = cc
on_board_at s (Some p) a e h = grind (arith, same_Some, ltb-true)

-- the only point is on the board
pub only_on_board : (s : ℕ) (point : Arg → Option ℕ) (args : List Arg) (a : ℕ) → only_point (map point args) ≡ Some a
    → are_on_board s point args ≡ true → a < s * s
only_on_board s point [] a e h = cc
only_on_board s point (x ∷ []) a e h = on_board_at s (point x) a e (first_of (is_on_board s (point x)) true h)
only_on_board s point (x ∷ y ∷ more) a e h = cc

-- if both points are there, each is
both_at : (o p : Option ℕ) (a b : ℕ) → both_points o p ≡ Some (a, b) → (o ≡ Some a) × (p ≡ Some b)
both_at None p a b e = cc
both_at (Some x) None a b e = cc
both_at (Some x) (Some y) a b e = grind (arith, same_Some)

-- the two points are on the board
pub two_on_board : (s : ℕ) (point : Arg → Option ℕ) (args : List Arg) (a b : ℕ)
    → two_points (map point args) ≡ Some (a, b)
    → are_on_board s point args ≡ true → (a < s * s) × (b < s * s)
two_on_board s point [] a b e h = cc
two_on_board s point (x ∷ []) a b e h = cc
two_on_board s point (x ∷ y ∷ []) a b e h = grind (arith, both_at, second_of, on_board_at, first_of)
two_on_board s point (x ∷ y ∷ z ∷ more) a b e h = cc
