-- What a caller of `eval` owes: a constraint that a pattern keeps may be evaluated, and where each argument that has a
-- point has one on the board, the arguments of each expression are placed.
use Rattle.std.proofs.Common.{◌≡◌, true, List, [], ◌∷◌, refl, arith}
use Rattle.std.proofs.lemmas.Bool.{and_from}
use Rattle.pat_types.specs.declared.expr.Arg.{Arg}
use Rattle.pat_types.specs.declared.expr.Expr.{Expr, Num, Call, Not', Neg', Bin'}
use Rattle.cons_eval.specs.Meanings.{Meanings, is_on_board, are_on_board, are_placed}

-- arguments that are each placed
args_on_board : (m : Meanings) (args : List Arg) → ((a : Arg) → is_on_board m.position.size (m.point a) ≡ true)
    → are_on_board m.position.size m.point args ≡ true
args_on_board m [] h = refl
args_on_board m (a ∷ args) h = grind (arith, and_from, args_on_board m args h)

-- the arguments of an expression, where all points are on the board
pub all_placed : (m : Meanings) (e : Expr) → ((a : Arg) → is_on_board m.position.size (m.point a) ≡ true)
    → are_placed m e ≡ true
unfolding are_placed
all_placed m (Num n) h = refl
all_placed m (Call f args) h = args_on_board m args h
all_placed m (Not' p e) h = all_placed m e h
all_placed m (Neg' p e) h = all_placed m e h
all_placed m (Bin' op p a q b) h = and_from (are_placed m a) (are_placed m b) (all_placed m a h) (all_placed m b h)
