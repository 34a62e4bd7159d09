-- What the type of a pattern guarantees of its labels and of its constraint.
use Rattle.std.specs.Prelude.{ℕ, ◌+◌, Bool, true, false, ◌&&◌, not, ◌==◌, nat_lt, nat_le, List, [], ◌∷◌, length, Option}
use Rattle.std.specs.Prelude.{Some, None, if◌then◌else◌}
use Rattle.std.specs.List.{list_any, list_all}
use Rattle.pat_types.specs.declared.pattern.LabelAt.{LabelAt}
use Rattle.pat_types.specs.declared.expr.Expr.{Expr, Num, Call, Not', Neg', Bin'}
use Rattle.pat_types.specs.declared.expr.Arg.{Arg}
use Rattle.pat_types.specs.declared.expr.Arg.TheVariants.{Label, Star, Nowhere}
use Rattle.pat_types.specs.declared.expr.Function.{Function}
use Rattle.pat_types.specs.declared.expr.Function.TheVariants.{OfPoint, OfPair, OfPoints, OfMoves}

-- the label lies in a diagram of this many rows and columns
abbrev pub is_in : ℕ → ℕ → LabelAt → Bool
is_in rows cols l = nat_lt l.row rows && nat_lt l.col cols

-- one of the labels has this letter
abbrev pub names : List LabelAt → ℕ → Bool
names labels letter = list_any (λ l. l.letter == letter) labels

-- no two labels have the same letter
abbrev pub are_apart : List LabelAt → Bool
are_apart [] = true
are_apart (l ∷ ls) = not (names ls l.letter) && are_apart ls

-- the labels lie in the diagram and have different letters
abbrev pub are_labels : ℕ → ℕ → List LabelAt → Bool
are_labels rows cols labels = list_all (is_in rows cols) labels && are_apart labels

-- the argument is a point: the star, or one of the labels
abbrev pub is_point : List LabelAt → Arg → Bool
is_point labels (Label letter) = names labels letter
is_point labels Star = true
is_point labels Nowhere = false

-- the argument is a point or a pass
abbrev pub is_move : List LabelAt → Arg → Bool
is_move labels (Label letter) = names labels letter
is_move labels Star = true
is_move labels Nowhere = true

-- each argument but the last is a move, and the last is a point
abbrev pub end_in_point : List LabelAt → List Arg → Bool
end_in_point labels [] = false
end_in_point labels (p ∷ []) = is_point labels p
end_in_point labels (m ∷ p ∷ more) = is_move labels m && end_in_point labels (p ∷ more)

-- there are at least low and at most high arguments
abbrev pub are_between : ℕ → ℕ → List Arg → Bool
are_between low high args = nat_le low (length args) && nat_le (length args) high

-- the function takes moves and then a point; every other function takes points alone
abbrev pub takes_moves : Function → Bool
takes_moves (OfMoves f) = true
takes_moves _ = false

-- the least and the greatest number of arguments of a function
abbrev pub arity_of : Function → ℕ × ℕ
arity_of (OfPoint f) = (1, 1)
arity_of (OfPair f) = (2, 2)
arity_of (OfPoints f) = (1, 8)
arity_of (OfMoves f) = (2, 9)

-- the function may be called with these arguments
abbrev pub may_call : List LabelAt → Function → List Arg → Bool
may_call labels f args =
    are_between (arity_of f).0 (arity_of f).1 args
    && (if takes_moves f then end_in_point labels args else list_all (is_point labels) args)

-- the expression can be evaluated: its numbers are at most 999,999, and each call has arguments that its function takes
unfoldable pub can_evaluate : List LabelAt → Expr → Bool
can_evaluate labels (Num n) = nat_lt n 1000000
can_evaluate labels (Call f args) = may_call labels f args
can_evaluate labels (Not' p e) = can_evaluate labels e
can_evaluate labels (Neg' p e) = can_evaluate labels e
can_evaluate labels (Bin' op p a q b) = can_evaluate labels a && can_evaluate labels b

-- how many numbers and calls the expression has
unfoldable pub leaf_count : Expr → ℕ
leaf_count (Num n) = 1
leaf_count (Call f args) = 1
leaf_count (Not' p e) = leaf_count e
leaf_count (Neg' p e) = leaf_count e
leaf_count (Bin' op p a q b) = leaf_count a + leaf_count b

-- there is no constraint, or it can be evaluated and has at most 4,096 leaves
abbrev pub is_constraint : List LabelAt → Option Expr → Bool
is_constraint labels None = true
is_constraint labels (Some e) = can_evaluate labels e && nat_le (leaf_count e) 4096
