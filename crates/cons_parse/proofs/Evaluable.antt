-- An expression without faults can be evaluated.
use Rattle.std.proofs.Common.{◌≡◌, ℕ, ◌+◌, ◌-◌, ◌≤◌, Bool, true, false, ◌&&◌, nat_le, nat_lt, cond, List, []}
use Rattle.std.proofs.Common.{◌∷◌, ◌++◌, length, refl, arith}
use Rattle.std.specs.List.{list_any, list_all}
use Rattle.std.proofs.lemmas.Bool.{ltb-false, le-leb, and_parts, and_from, or_parts, not-false}
use Rattle.std.proofs.lemmas.List.{length-append}
use Rattle.pat_types.specs.declared.pattern.LabelAt.{LabelAt}
use Rattle.pat_types.specs.declared.expr.Arg.{Arg}
use Rattle.pat_types.specs.declared.expr.Arg.TheVariants.{Label, Star, Nowhere}
use Rattle.pat_types.specs.declared.expr.Function.{Function}
use Rattle.pat_types.specs.declared.expr.Function.TheVariants.{OfPoint, OfPair, OfPoints, OfMoves}
use Rattle.pat_types.specs.declared.expr.Expr.{Expr, Num, Call, Not', Neg', Bin'}
use Rattle.pat_types.specs.declared.expr.Op.{Op}
use Rattle.pat_types.specs.Labels.{names, arity_of, is_point, is_move, end_in_point, may_call, can_evaluate, leaf_count}
use Rattle.cons_parse.specs.declared.token.Name.{Name}
use Rattle.cons_parse.specs.declared.token.Name.TheVariants.{Letter, Known, Unknown}
use Rattle.cons_parse.specs.declared.calls.Item.{Item}
use Rattle.cons_parse.specs.Grammar as written
use Rattle.cons_parse.specs.Grammar.{Written, spelling}
use Rattle.cons_parse.specs.Faults.{is_nowhere, ends_nowhere, is_miscalled, misses}
use Rattle.cons_parse.specs.Faults.{is_unknown, is_unknown_call, is_unknown_label, is_unlabelled, some_call}
use Rattle.cons_parse.specs.Trees.{Tree, NumTree, CallTree, NotTree, NegTree, BinTree, tree_of, meaning_of, call_tree}
use Rattle.cons_parse.proofs.SmallNumbers.{is_small_item}

-- the numbers of a tree are below a million, and a pattern with these labels may keep its calls
abbrev pub can_be : List LabelAt → Tree → Bool
can_be labels (NumTree n) = nat_lt n 1000000
can_be labels (CallTree f args) = may_call labels f args
can_be labels (NotTree e) = can_be labels e
can_be labels (NegTree e) = can_be labels e
can_be labels (BinTree op a b) = can_be labels a && can_be labels b

-- how many numbers and calls a tree has
abbrev pub leaves : Tree → ℕ
leaves (NumTree n) = 1
leaves (CallTree f args) = 1
leaves (NotTree e) = leaves e
leaves (NegTree e) = leaves e
leaves (BinTree op a b) = leaves a + leaves b

-- an expression can be evaluated exactly if its tree can
pub can_tree : (labels : List LabelAt) (e : Expr) → can_evaluate labels e ≡ can_be labels (tree_of e)
unfolding can_evaluate
can_tree labels (Num n) = refl
can_tree labels (Call f args) = refl
can_tree labels (Not' p e) = can_tree labels e
can_tree labels (Neg' p e) = can_tree labels e
can_tree labels (Bin' op p a q b) = let x = can_tree labels a in let y = can_tree labels b in rw (x, y) refl

-- an expression has as many leaves as its tree
pub leaf_tree : (e : Expr) → leaf_count e ≡ leaves (tree_of e)
unfolding leaf_count
leaf_tree (Num n) = refl
leaf_tree (Call f args) = refl
leaf_tree (Not' p e) = leaf_tree e
leaf_tree (Neg' p e) = leaf_tree e
leaf_tree (Bin' op p a q b) = let x = leaf_tree a in let y = leaf_tree b in rw (x, y) refl

-- tests

-- all of two lists pass where all of each do
all_append : (t : Item → Bool) (is js : List Item) → list_all t (is ++ js) ≡ (list_all t is && list_all t js)
all_append t [] js = refl
all_append t (i ∷ is) js = grind (arith, all_append t is js)

-- arguments

-- an argument that is no pass and no unknown label is a point
point_of : (labels : List LabelAt) (a : Arg) → is_nowhere a ≡ false → is_unknown_label labels a ≡ false
    → is_point labels a ≡ true
point_of labels (Label c) h k = not-false (names labels c) k
point_of labels Star h k = refl
point_of labels Nowhere h k = cc

-- an argument that is no unknown label is a move
move_of : (labels : List LabelAt) (a : Arg) → is_unknown_label labels a ≡ false → is_move labels a ≡ true
move_of labels (Label c) k = not-false (names labels c) k
move_of labels Star k = refl
move_of labels Nowhere k = refl

-- arguments without passes and unknown labels are points
all_points : (labels : List LabelAt) (args : List Arg) → list_any is_nowhere args ≡ false
    → list_any (is_unknown_label labels) args ≡ false → list_all (is_point labels) args ≡ true
all_points labels [] h k = refl
all_points labels (a ∷ args) h k = grind (arith, or_parts, and_from, point_of, all_points labels args)

-- the last argument is the last of those behind the first
last_of_more : (m p : Arg) (more : List Arg) → ends_nowhere (m ∷ p ∷ more) ≡ ends_nowhere (p ∷ more)
last_of_more m p more = grind arith

-- arguments without unknown labels, the last of them no pass, are moves and then a point
moves_then_point : (labels : List LabelAt) (args : List Arg) → 1 ≤ length args → ends_nowhere args ≡ false
    → list_any (is_unknown_label labels) args ≡ false → end_in_point labels args ≡ true
moves_then_point labels [] l h k = absurd (omega arith)
moves_then_point labels (p ∷ []) l h k = point_of labels p h (or_parts (is_unknown_label labels p) false k).0
moves_then_point labels (m ∷ p ∷ more) l h k =
    grind (arith, or_parts, and_from, move_of, last_of_more, moves_then_point labels (p ∷ more))

-- arguments without faults are as the function takes them
args_if : (labels : List LabelAt) (v : Bool) (args : List Arg) → 1 ≤ length args
    → cond v (ends_nowhere args) (list_any is_nowhere args) ≡ false → list_any (is_unknown_label labels) args ≡ false
    → cond v (end_in_point labels args) (list_all (is_point labels) args) ≡ true
args_if labels true args l h k = moves_then_point labels args l h k
args_if labels false args l h k = all_points labels args h k

-- each function has an argument
least_arity : (f : Function) → 1 ≤ (arity_of f).0
least_arity (OfPoint f) = omega arith
least_arity (OfPair f) = omega arith
least_arity (OfPoints f) = omega arith
least_arity (OfMoves f) = omega arith

-- a function without faults may be called so
call_may : (labels : List LabelAt) (f : Function) (args : List Arg) → is_miscalled f args ≡ false
    → list_any (is_unknown_label labels) args ≡ false → may_call labels f args ≡ true
call_may labels f args h k = grind (arith, or_parts, nat_lt, ltb-false, least_arity, and_from, nat_le, le-leb, args_if)

-- a call without faults can be evaluated
named_may : (labels : List LabelAt) (name : Name) (args : List Arg) → is_unknown name ≡ false
    → misses name args ≡ false → list_any (is_unknown_label labels) args ≡ false
    → can_be labels (call_tree name args) ≡ true
named_may labels (Letter c) args u h k = cc
named_may labels (Known f) args u h k = call_may labels f args h k
named_may labels Unknown args u h k = cc

-- an expression in parentheses with small numbers has them inside
small_inside : (e : Written) → list_all is_small_item (spelling (written.Parens e)) ≡ true
    → list_all is_small_item (spelling e) ≡ true
small_inside e s = grind (arith, and_parts, all_append)

-- an operator with small numbers has them on both sides
small_sides : (op : Op) (a b : Written) → list_all is_small_item (spelling (written.Bin op a b)) ≡ true
    → (list_all is_small_item (spelling a) ≡ true) × (list_all is_small_item (spelling b) ≡ true)
small_sides op a b s = grind (arith, and_parts, all_append)

-- an expression with small numbers and no faults of its calls
pub meaning_can : (labels : List LabelAt) (w : Written) → list_all is_small_item (spelling w) ≡ true
    → some_call is_unknown_call w ≡ false → some_call misses w ≡ false → some_call (is_unlabelled labels) w ≡ false
    → can_be labels (meaning_of w) ≡ true
meaning_can labels (written.Num n) s u h k = (and_parts (nat_lt n 1000000) true s).0
meaning_can labels (written.Call name args) s u h k = named_may labels name args u h k
meaning_can labels (written.Parens e) s u h k = meaning_can labels e (small_inside e s) u h k
meaning_can labels (written.Not e) s u h k = meaning_can labels e s u h k
meaning_can labels (written.Neg e) s u h k = meaning_can labels e s u h k
meaning_can labels (written.Bin op a b) s u h k =
    grind (arith, small_sides, or_parts, and_from, meaning_can labels a, meaning_can labels b)

-- a call is one leaf
call_leaf : (name : Name) (args : List Arg) → leaves (call_tree name args) ≡ 1
call_leaf (Letter c) args = refl
call_leaf (Known f) args = refl
call_leaf Unknown args = refl

-- each leaf has an item
pub meaning_leaves : (w : Written) → leaves (meaning_of w) ≤ length (spelling w)
meaning_leaves (written.Num n) = omega arith
meaning_leaves (written.Call name args) = omega (arith, call_leaf name args)
meaning_leaves (written.Parens e) = grind (arith, length-append, meaning_leaves e)
meaning_leaves (written.Not e) = let h = meaning_leaves e in omega arith
meaning_leaves (written.Neg e) = let h = meaning_leaves e in omega arith
meaning_leaves (written.Bin op a b) = grind (arith, length-append, meaning_leaves a, meaning_leaves b)
