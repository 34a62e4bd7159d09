-- The value of an expression by those of its parts, how large it is, and what it asks.
use Rattle.std.proofs.Common.{◌≡◌, ℕ, ◌+◌, ◌*◌, Bool, true, false, not, ◌&&◌, ◌||◌, List, map, ℤ, pos, ◌-ℤ◌, Box}
use Rattle.std.proofs.Common.{Global, w64, SFits, FitsSigned, to_z, of_z, refl, sym, ap, ◌∙◌, subst, arith}
use Rattle.std.proofs.lemmas.Int.{ints, to_z-of_z}
use Rattle.std.proofs.lemmas.Bool.{ltb-true, or_parts}
use Rattle.pat_types.specs.declared.expr.Op.{Op}
use Rattle.pat_types.specs.declared.expr.Op.TheVariants.{Or, And, Eq, Ne, Lt, Le, Gt, Ge, Add, Sub}
use Rattle.pat_types.specs.declared.expr.Arg.{Arg}
use Rattle.pat_types.specs.declared.expr.Function.{Function}
use Rattle.pat_types.specs.declared.expr.Expr.{Expr, Num, Call, Not, Neg, Bin}
use Rattle.pat_types.specs.Labels.{can_evaluate, leaf_count}
use Rattle.cons_eval.specs.Bounds.{IsConstraint, IsWithin, most, most_leaves}
use Rattle.cons_eval.specs.Meanings.{Meanings, are_on_board, are_placed}
use Rattle.cons_eval.specs.Values.{worth, is_so, joined_value, call_value, value_of}
use Rattle.cons_eval.specs.Asking.{is_reading, needs_right, asks}
use Rattle.cons_eval.proofs.Parts.{leaf_some}
use Rattle.cons_eval.proofs.Sizes.{worth_within, within_more, neg_within, joined_within}

-- numbers of the machine

-- a bound on a number holds of its bits too
pub bits_within : (n : ℕ) (r : ℤ) → SFits w64 r → IsWithin n r → IsWithin n (to_z w64 (of_z w64 r))
bits_within n r f h = subst (λ (x : ℤ). IsWithin n x) (sym (to_z-of_z w64 r f)) h

-- the value of an expression that a pattern may keep is small
pub all_small : (e : Expr) (r : ℤ) → IsConstraint e → IsWithin (leaf_count e * most) r → IsWithin (most_leaves * most) r
all_small e r c h = let few = c.few in within_more (leaf_count e * most) (most_leaves * most) r h (omega arith)

-- the opposite of a small number fits
pub opposite_fits : (r : ℤ) → SFits w64 r → IsWithin (most_leaves * most) r
    → FitsSigned w64 (pos 0 -ℤ to_z w64 (of_z w64 r))
opposite_fits r f h = let low = h.low in let high = h.high in omega (arith, ints)

-- values

-- the arguments of a call are placed
pub placed_call : (m : Meanings) (e : Expr) (f : Function) (args us : List Arg) → e ≡ Call f args → us ≡ args
    → are_placed m e ≡ true → are_on_board m.position.size m.point us ≡ true
unfolding are_placed
placed_call m e f args us p q h = grind arith

-- the value of a number
pub num_value : (m : Meanings) (e : Expr) (n : ℕ) → e ≡ Num n → pos n ≡ value_of m e
unfolding value_of
num_value m e n p = sym (ap (value_of m) p)

-- the value of a call
pub value_of_call : (m : Meanings) (e : Expr) (f : Function) (args us : List Arg) → e ≡ Call f args → us ≡ args
    → call_value m f (map m.point us) ≡ value_of m e
unfolding value_of
value_of_call m e f args us p q = ap (λ (xs : List Arg). call_value m f (map m.point xs)) q ∙ sym (ap (value_of m) p)

-- the value behind a `!`
pub value_of_not : (m : Meanings) (e inner : Expr) (b : Box Expr Global) (x : ℤ) → inner ≡ b.value → e ≡ Not b
    → x ≡ value_of m inner → worth (not (is_so x)) ≡ value_of m e
unfolding value_of
value_of_not m e inner b x q p h = grind arith

-- the value behind a `-`
pub value_of_neg : (m : Meanings) (e inner : Expr) (b : Box Expr Global) (x : ℤ) → inner ≡ b.value → e ≡ Neg b
    → x ≡ value_of m inner → pos 0 -ℤ x ≡ value_of m e
unfolding value_of
value_of_neg m e inner b x q p h = grind (arith, ints)

-- the value of two sides
pub value_of_sides : (m : Meanings) (e left right : Expr) (op : Op) (a b : Box Expr Global) (x y : ℤ)
    → left ≡ a.value → right ≡ b.value → e ≡ Bin op a b → x ≡ value_of m left → y ≡ value_of m right
    → joined_value op x y ≡ value_of m e
unfolding value_of
value_of_sides m e left right op a b x y q r p h k = grind arith

-- if the right side is not needed, the left one decides
left_decides : (op : Op) (x y : ℤ) → needs_right op x ≡ false → worth (is_so x) ≡ joined_value op x y
left_decides Or x y h = grind arith
left_decides And x y h = grind arith
left_decides Eq x y h = cc
left_decides Ne x y h = cc
left_decides Lt x y h = cc
left_decides Le x y h = cc
left_decides Gt x y h = cc
left_decides Ge x y h = cc
left_decides Add x y h = cc
left_decides Sub x y h = cc

-- the value of the left side alone
pub value_of_left : (m : Meanings) (e left : Expr) (op : Op) (a b : Box Expr Global) (x : ℤ) → left ≡ a.value
    → e ≡ Bin op a b → x ≡ value_of m left → needs_right op x ≡ false → worth (is_so x) ≡ value_of m e
value_of_left m e left op a b x q p h n =
    left_decides op x (value_of m b.value) n
    ∙ value_of_sides m e left b.value op a b x (value_of m b.value) q refl p h refl

-- sizes

-- a test is as small as the leaves allow
pub test_small : (e : Expr) (t : Bool) → IsWithin (leaf_count e * most) (worth t)
test_small e t = let some = leaf_some e in worth_within t (leaf_count e * most) (omega arith)

-- a number or a call is as small as its leaf allows
pub num_small : (e : Expr) (n : ℕ) → e ≡ Num n → IsConstraint e → IsWithin (leaf_count e * most) (pos n)
unfolding leaf_count can_evaluate
num_small e n p c = grind (arith, ltb-true, ints)

-- a call is as small as its leaf allows
pub call_small : (e : Expr) (f : Function) (args : List Arg) (r : ℤ) → e ≡ Call f args → IsWithin most r
    → IsWithin (leaf_count e * most) r
unfolding leaf_count
call_small e f args r p h = grind (arith, within_more)

-- the opposite is as small as what it is the opposite of
pub neg_small : (e inner : Expr) (b : Box Expr Global) (x : ℤ) → inner ≡ b.value → e ≡ Neg b
    → IsWithin (leaf_count inner * most) x → IsWithin (leaf_count e * most) (pos 0 -ℤ x)
unfolding leaf_count
neg_small e inner b x q p h = grind (arith, ints, neg_within)

-- two sides with an operator are as small as both together
pub sides_small : (e left right : Expr) (op : Op) (a b : Box Expr Global) (x y : ℤ) → left ≡ a.value → right ≡ b.value
    → e ≡ Bin op a b → IsWithin (leaf_count left * most) x → IsWithin (leaf_count right * most) y
    → IsWithin (leaf_count e * most) (joined_value op x y)
unfolding leaf_count
sides_small e left right op a b x y q r p h k =
    let sum : leaf_count e ≡ leaf_count left + leaf_count right =
    ap leaf_count p ∙ (ap (λ (n : ℕ). n + leaf_count b.value) (sym (ap leaf_count q))
    ∙ ap (λ (n : ℕ). leaf_count left + n) (sym (ap leaf_count r))) in
    let some = leaf_some left in
    within_more (leaf_count left * most + leaf_count right * most) (leaf_count e * most) (joined_value op x y)
    (joined_within op (leaf_count left * most) (leaf_count right * most) x y (omega arith) h k) (omega arith)

-- what is asked

-- a call that asks for nothing is of a function that reads nothing
pub asks_call : (m : Meanings) (e : Expr) (f : Function) (args : List Arg) → e ≡ Call f args → asks m e ≡ false
    → is_reading f ≡ false
unfolding asks
asks_call m e f args p h = sym (ap (asks m) p) ∙ h

-- what stands behind a `!` asks for what the whole does
pub asks_not : (m : Meanings) (e inner : Expr) (b : Box Expr Global) → inner ≡ b.value → e ≡ Not b → asks m e ≡ false
    → asks m inner ≡ false
unfolding asks
asks_not m e inner b q p h = ap (asks m) q ∙ (sym (ap (asks m) p) ∙ h)

-- what stands behind a `-` asks for what the whole does
pub asks_neg : (m : Meanings) (e inner : Expr) (b : Box Expr Global) → inner ≡ b.value → e ≡ Neg b → asks m e ≡ false
    → asks m inner ≡ false
unfolding asks
asks_neg m e inner b q p h = ap (asks m) q ∙ (sym (ap (asks m) p) ∙ h)

-- of two tests of which none passes, the second fails, or is not needed
second_fails : (s n t : Bool) → (s || (n && t)) ≡ false → n ≡ true → t ≡ false
second_fails true n t h k = cc
second_fails false true t h k = h
second_fails false false t h k = cc

-- the left side asks for nothing where the whole does not
pub asks_left : (m : Meanings) (e left : Expr) (op : Op) (a b : Box Expr Global) → left ≡ a.value → e ≡ Bin op a b
    → asks m e ≡ false → asks m left ≡ false
unfolding asks
asks_left m e left op a b q p h = grind (arith, or_parts)

-- a right side that is needed asks for nothing where the whole does not
pub asks_right : (m : Meanings) (e left right : Expr) (op : Op) (a b : Box Expr Global) (x : ℤ) → left ≡ a.value
    → right ≡ b.value → e ≡ Bin op a b → x ≡ value_of m left → needs_right op x ≡ true → asks m e ≡ false
    → asks m right ≡ false
unfolding asks
asks_right m e left right op a b x q r p h n f = grind (arith, second_fails)
