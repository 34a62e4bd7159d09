-- The value of an expression by those of the parts below it, as the machine computes it, and how small it is.
use Rattle.std.proofs.Common.{◌≡◌, ◌*◌, Bool, false, not, ℤ, pos, negsuc, ◌-ℤ◌, Box, Global, Result, w64, SFits}
use Rattle.std.proofs.Common.{to_z, of_z, sym, ap, ◌∙◌, subst, arith}
use Rattle.std.specs.Result.{IfOk}
use Rattle.std.proofs.lemmas.Int.{ints, to_z-of_z}
use Rattle.std.proofs.lemmas.Result.{IfOk-weaker}
use Rattle.pat_types.specs.declared.expr.Op.{Op}
use Rattle.pat_types.specs.declared.expr.Expr.{Expr, Not, Neg, Bin}
use Rattle.pat_types.specs.Labels.{leaf_count}
use Rattle.cons_eval.specs.Bounds.{IsConstraint, IsWithin, most, most_leaves}
use Rattle.cons_eval.specs.Meanings.{Meanings}
use Rattle.cons_eval.specs.Values.{worth, is_so, joined_value, value_of}
use Rattle.cons_eval.specs.Asking.{needs_right}
use Rattle.cons_eval.proofs.ExpressionValues.{all_small, opposite_fits, value_of_not, value_of_neg, value_of_sides}
use Rattle.cons_eval.proofs.ExpressionValues.{value_of_left, test_small, neg_small, sides_small}

-- a number is the value of an expression, and as small as its leaves allow
pub record IsValue (m : Meanings) (e : Expr) (x : ℤ) : Type 0 where
  pub value : x ≡ value_of m e
  pub small : IsWithin (leaf_count e * most) x

-- a small number fits
small_fits : (r : ℤ) → IsWithin (most_leaves * most) r → SFits w64 r
small_fits (pos n) h = let high = h.high in record { sfits = omega (arith, ints) }
small_fits (negsuc n) h = let low = h.low in record { sfits = omega (arith, ints) }

-- the value of a constraint fits
pub value_fits : (e : Expr) (r : ℤ) → IsConstraint e → IsWithin (leaf_count e * most) r → SFits w64 r
value_fits e r c h = small_fits r (all_small e r c h)

module _ (m : Meanings) (e : Expr) where
  -- what is put is the value
  pub ok_value : {E : Type 0} (r : Result ℤ E) (x : ℤ) → IsValue m e x → IfOk r (λ v. v ≡ x)
      → IfOk r (λ v. v ≡ value_of m e)
  ok_value r x is h = IfOk-weaker r (λ v. v ≡ x) (λ v. v ≡ value_of m e) (λ v same. same ∙ is.value) h

  -- what is put is small
  pub ok_small : {E : Type 0} (r : Result ℤ E) (x : ℤ) → IsValue m e x → IfOk r (λ v. v ≡ x)
      → IfOk r (λ v. IsWithin (leaf_count e * most) v)
  ok_small r x is h =
      IfOk-weaker r (λ v. v ≡ x) (λ v. IsWithin (leaf_count e * most) v)
      (λ v same. subst (λ (z : ℤ). IsWithin (leaf_count e * most) z) (sym same) is.small) h

  -- a number that is another one is as small
  as_small : (x y : ℤ) → x ≡ y → IsWithin (leaf_count e * most) y → IsWithin (leaf_count e * most) x
  as_small x y same h = subst (λ (z : ℤ). IsWithin (leaf_count e * most) z) (sym same) h

  module _ (inner : Expr) (b : Box Expr Global) (x : ℤ) (q : inner ≡ b.value) (con : IsConstraint inner)
      (h : x ≡ value_of m inner) (small : IsWithin (leaf_count inner * most) x) where
    -- the value behind a `!`
    pub not_step : (w : ℤ) (t : Bool) → e ≡ Not b → SFits w64 w → t ≡ is_so (to_z w64 (of_z w64 x))
        → w ≡ worth (not t) → IsValue m e (to_z w64 (of_z w64 w))
    not_step w t p fits is_t is_w =
        grind (
          arith,
          to_z-of_z w64 x,
          value_fits inner x con,
          to_z-of_z w64 w fits,
          value_of_not m e inner b x q p h,
          to_z w64 (of_z w64 w),
          of_z w64 w,
          test_small e (not t),
        )

    -- the value behind a `-`
    pub neg_step : e ≡ Neg b → IsValue m e (to_z w64 (of_z w64 (pos 0 -ℤ to_z w64 (of_z w64 x))))
    neg_step p =
        let fits = value_fits inner x con small in
        let opposite = pos 0 -ℤ to_z w64 (of_z w64 x) in
        let kept = to_z-of_z w64 opposite (opposite_fits x fits (all_small inner x con small))
        ∙ ap (λ (z : ℤ). pos 0 -ℤ z) (to_z-of_z w64 x fits) in
        record {
          value = kept ∙ value_of_neg m e inner b x q p h;
          small = as_small (to_z w64 (of_z w64 opposite)) (pos 0 -ℤ x) kept (neg_small e inner b x q p small);
        }

  module _ (left : Expr) (op : Op) (a b : Box Expr Global) (x : ℤ) (q : left ≡ a.value) (p : e ≡ Bin op a b)
      (con : IsConstraint left) (h : x ≡ value_of m left) (small : IsWithin (leaf_count left * most) x) where
    -- the value of two sides
    pub sides_step : (right : Expr) (y w : ℤ) → right ≡ b.value → IsConstraint right → y ≡ value_of m right
        → IsWithin (leaf_count right * most) y → SFits w64 w
        → w ≡ joined_value op (to_z w64 (of_z w64 x)) (to_z w64 (of_z w64 y)) → IsValue m e (to_z w64 (of_z w64 w))
    sides_step right y w r con_right k small_right fits is_w =
        grind (
          arith,
          to_z-of_z w64 x,
          value_fits left x con,
          to_z-of_z w64 y (value_fits right y con_right small_right),
          value_fits right y con_right small_right,
          to_z-of_z w64 w fits,
          to_z w64 (of_z w64 y),
          of_z w64 y,
          value_of_sides m e left right op a b x y q r p h k,
          to_z w64 (of_z w64 w),
          of_z w64 w,
          sides_small e left right op a b x y q r p,
        )

    -- the value of the left side alone
    pub left_step : (w : ℤ) (t : Bool) → SFits w64 w → t ≡ is_so (to_z w64 (of_z w64 x)) → w ≡ worth t
        → needs_right op (to_z w64 (of_z w64 x)) ≡ false → IsValue m e (to_z w64 (of_z w64 w))
    left_step w t fits is_t is_w needless =
        grind (
          arith,
          to_z-of_z w64 x,
          value_fits left x con,
          to_z-of_z w64 w fits,
          value_of_left m e left op a b x q p h,
          to_z w64 (of_z w64 w),
          of_z w64 w,
          test_small e t,
        )
