-- The values of an expression by those of the parts below it, put one after the other.
use Rattle.std.proofs.Common.{◌≡◌, true, false, cond, List, [], ◌∷◌, ◌++◌, map, Option, Some, None, ℤ, Box}
use Rattle.std.proofs.Common.{Global, sym, ap, ◌∙◌, append_assoc, arith}
use Rattle.std.proofs.lemmas.List.{map-append}
use Rattle.pat_types.specs.declared.expr.Op.{Op}
use Rattle.pat_types.specs.declared.expr.Arg.{Arg}
use Rattle.pat_types.specs.declared.expr.Function.{Function}
use Rattle.pat_types.specs.declared.expr.Expr.{Expr, Num, Call, Not, Neg, Bin}
use Rattle.cons_eval.specs.Meanings.{Meanings}
use Rattle.cons_eval.specs.Values.{value_of}
use Rattle.cons_eval.specs.Asking.{needs_right}
use Rattle.constraint_values.specs.Parts.{parts_of, no_values, values_in}

abbrev Values : Type 0
Values = List (Option ℤ)

-- no value for a part
abbrev nothing : Expr → Option ℤ
nothing part = None

-- a list grows by two lists in turn
two_in_turn : (xs ys zs us vs : Values) → ys ≡ xs ++ us → zs ≡ ys ++ vs → zs ≡ xs ++ (us ++ vs)
two_in_turn xs ys zs us vs h k = k ∙ (ap (λ (l : Values). l ++ vs) h ∙ append_assoc xs us vs)

-- parts that are not needed

-- a number is one part
pub none_of_num : (e : Expr) (n : _) (xs ys : Values) → e ≡ Num n → ys ≡ xs ++ None ∷ [] → ys ≡ xs ++ no_values e
unfolding parts_of
none_of_num e n xs ys p h = h ∙ ap (λ (x : Expr). xs ++ no_values x) (sym p)

-- a call is one part
pub none_of_call : (e : Expr) (f : Function) (args : List Arg) (xs ys : Values) → e ≡ Call f args
    → ys ≡ xs ++ None ∷ [] → ys ≡ xs ++ no_values e
unfolding parts_of
none_of_call e f args xs ys p h = h ∙ ap (λ (x : Expr). xs ++ no_values x) (sym p)

-- the parts of a sign are those behind it, and itself
pub none_of_not : (e inner : Expr) (b : Box Expr Global) (xs ys zs : Values) → inner ≡ b.value → e ≡ Not b
    → ys ≡ xs ++ no_values inner → zs ≡ ys ++ None ∷ [] → zs ≡ xs ++ no_values e
unfolding parts_of
none_of_not e inner b xs ys zs q p h k = grind (arith, two_in_turn, map-append)

-- the parts of a sign are those behind it, and itself
pub none_of_neg : (e inner : Expr) (b : Box Expr Global) (xs ys zs : Values) → inner ≡ b.value → e ≡ Neg b
    → ys ≡ xs ++ no_values inner → zs ≡ ys ++ None ∷ [] → zs ≡ xs ++ no_values e
unfolding parts_of
none_of_neg e inner b xs ys zs q p h k = grind (arith, two_in_turn, map-append)

-- the parts of an operator are those of its sides, and itself
pub none_of_bin : (e left right : Expr) (op : Op) (a b : Box Expr Global) (xs ys zs us : Values) → left ≡ a.value
    → right ≡ b.value → e ≡ Bin op a b → ys ≡ xs ++ no_values left → zs ≡ ys ++ no_values right
    → us ≡ zs ++ None ∷ [] → us ≡ xs ++ no_values e
unfolding parts_of
none_of_bin e left right op a b xs ys zs us q r p h k l = grind (arith, two_in_turn, map-append)

-- parts that are needed

-- a number is one part
pub values_of_num : (m : Meanings) (e : Expr) (n : _) (xs ys : Values) → e ≡ Num n
    → ys ≡ xs ++ Some (value_of m e) ∷ [] → ys ≡ xs ++ values_in m e
unfolding values_in
values_of_num m e n xs ys p h = grind arith

-- a call is one part
pub values_of_call : (m : Meanings) (e : Expr) (f : Function) (args : List Arg) (xs ys : Values) → e ≡ Call f args
    → ys ≡ xs ++ Some (value_of m e) ∷ [] → ys ≡ xs ++ values_in m e
unfolding values_in
values_of_call m e f args xs ys p h = grind arith

-- behind the values of what stands behind a `!` comes its own
pub values_of_not : (m : Meanings) (e inner : Expr) (b : Box Expr Global) (x : ℤ) (xs ys zs : Values)
    → inner ≡ b.value → e ≡ Not b → x ≡ value_of m e → ys ≡ xs ++ values_in m inner → zs ≡ ys ++ Some x ∷ []
    → zs ≡ xs ++ values_in m e
unfolding values_in
values_of_not m e inner b x xs ys zs q p v h k = grind (arith, two_in_turn)

-- behind the values of what stands behind a `-` comes its own
pub values_of_neg : (m : Meanings) (e inner : Expr) (b : Box Expr Global) (x : ℤ) (xs ys zs : Values)
    → inner ≡ b.value → e ≡ Neg b → x ≡ value_of m e → ys ≡ xs ++ values_in m inner → zs ≡ ys ++ Some x ∷ []
    → zs ≡ xs ++ values_in m e
unfolding values_in
values_of_neg m e inner b x xs ys zs q p v h k = grind (arith, two_in_turn)

-- what is put for the right side
abbrev right_values : Meanings → Op → Expr → Expr → Values
right_values m op left right = cond (needs_right op (value_of m left)) (values_in m right) (no_values right)

-- behind the values of the left side come what is put for the right one and the operator's own
sides_in_turn : (m : Meanings) (e left right : Expr) (op : Op) (a b : Box Expr Global) (x : ℤ) (xs ys zs us : Values)
    → left ≡ a.value → right ≡ b.value → e ≡ Bin op a b → x ≡ value_of m e → ys ≡ xs ++ values_in m left
    → zs ≡ ys ++ right_values m op left right → us ≡ zs ++ Some x ∷ [] → us ≡ xs ++ values_in m e
unfolding values_in
sides_in_turn m e left right op a b x xs ys zs us q r p v h k l = grind (arith, two_in_turn)

-- a right side that is needed has values
pub values_of_sides : (m : Meanings) (e left right : Expr) (op : Op) (a b : Box Expr Global) (w x : ℤ)
    (xs ys zs us : Values) → left ≡ a.value → right ≡ b.value → e ≡ Bin op a b → w ≡ value_of m left
    → needs_right op w ≡ true → x ≡ value_of m e → ys ≡ xs ++ values_in m left → zs ≡ ys ++ values_in m right
    → us ≡ zs ++ Some x ∷ [] → us ≡ xs ++ values_in m e
values_of_sides m e left right op a b w x xs ys zs us q r p is needed v h k l =
    grind (arith, sides_in_turn m e left right op a b x xs ys zs us q r p v h)

-- a right side that is not needed has none
pub values_of_left : (m : Meanings) (e left right : Expr) (op : Op) (a b : Box Expr Global) (w x : ℤ)
    (xs ys zs us : Values) → left ≡ a.value → right ≡ b.value → e ≡ Bin op a b → w ≡ value_of m left
    → needs_right op w ≡ false → x ≡ value_of m e → ys ≡ xs ++ values_in m left → zs ≡ ys ++ no_values right
    → us ≡ zs ++ Some x ∷ [] → us ≡ xs ++ values_in m e
values_of_left m e left right op a b w x xs ys zs us q r p is needless v h k l =
    grind (arith, sides_in_turn m e left right op a b x xs ys zs us q r p v h)
