-- How many readings an expression asks for, by those of its parts.
use Rattle.std.proofs.Common.{◌≡◌, ℕ, zero, suc, ◌+◌, ◌∙◌, Bool, true, false, if◌then◌else◌, List, map, ℤ, Box, Global}
use Rattle.std.proofs.Common.{refl, ap, sym, arith}
use Rattle.pat_types.specs.declared.expr.Op.{Op}
use Rattle.pat_types.specs.declared.expr.Arg.{Arg}
use Rattle.pat_types.specs.declared.expr.Function.{Function}
use Rattle.pat_types.specs.declared.expr.Expr.{Expr, Num, Call, Not, Neg, Bin}
use Rattle.cons_eval.specs.Asking.{needs_right}
use Rattle.cons_eval.specs.Meanings.{Meanings}
use Rattle.cons_eval.specs.Values.{value_of}
use Rattle.cons_eval.specs.Questions.{call_readings, readings_of, one_more, counted}

-- questions after questions are counted as both together
pub counted_on : (a b count : ℕ) → counted b (counted a count) ≡ counted (a + b) count
counted_on zero b count = grind arith
counted_on (suc a) b count =
    let more : suc (a + b) ≡ suc a + b = omega arith in
    counted_on a b (one_more count) ∙ ap (λ (n : ℕ). counted n count) more

-- a number asks for none
pub readings_of_num : (m : Meanings) (e : Expr) (n : ℕ) → e ≡ Num n → 0 ≡ readings_of m e
unfolding readings_of
readings_of_num m e n p = sym (ap (readings_of m) p)

-- a call asks for its own
pub readings_of_call : (m : Meanings) (e : Expr) (f : Function) (args us : List Arg) → e ≡ Call f args → us ≡ args
    → call_readings m f (map m.point us) ≡ readings_of m e
unfolding readings_of
readings_of_call m e f args us p q = grind arith

-- a `!` asks for what stands behind it
pub readings_of_not : (m : Meanings) (e inner : Expr) (b : Box Expr Global) → inner ≡ b.value → e ≡ Not b
    → readings_of m inner ≡ readings_of m e
unfolding readings_of
readings_of_not m e inner b q p = ap (readings_of m) q ∙ sym (ap (readings_of m) p)

-- a `-` asks for what stands behind it
pub readings_of_neg : (m : Meanings) (e inner : Expr) (b : Box Expr Global) → inner ≡ b.value → e ≡ Neg b
    → readings_of m inner ≡ readings_of m e
unfolding readings_of
readings_of_neg m e inner b q p = ap (readings_of m) q ∙ sym (ap (readings_of m) p)

-- a right side that is needed adds its own
with_right : (t : Bool) (x y : ℕ) → t ≡ true → x + y ≡ x + (if t then y else 0)
with_right true x y h = refl
with_right false x y h = cc

-- one that is not needed adds none
without_right : (t : Bool) (x y : ℕ) → t ≡ false → x ≡ x + (if t then y else 0)
without_right true x y h = cc
without_right false x y h = omega arith

-- two sides of which the right one is needed ask for those of both
pub readings_of_sides : (m : Meanings) (e left right : Expr) (op : Op) (a b : Box Expr Global) (x : ℤ)
    → left ≡ a.value → right ≡ b.value → e ≡ Bin op a b → x ≡ value_of m left → needs_right op x ≡ true
    → readings_of m left + readings_of m right ≡ readings_of m e
unfolding readings_of
readings_of_sides m e left right op a b x q r p h n = grind (arith, with_right)

-- if the right side is not needed, they ask for those of the left one
pub readings_of_left : (m : Meanings) (e left : Expr) (op : Op) (a b : Box Expr Global) (x : ℤ) → left ≡ a.value
    → e ≡ Bin op a b → x ≡ value_of m left → needs_right op x ≡ false → readings_of m left ≡ readings_of m e
unfolding readings_of
readings_of_left m e left op a b x q p h n = grind (arith, without_right)
