-- What is kept stays right.
use Rattle.std.proofs.Common.{◌≡◌, inl, inr, subst, Bool, true, List, [], ◌∷◌, ◌++◌, ℕ}
use Rattle.std.proofs.Common.{◌+◌, length, take, drop, length-append, arith, Some}
use Rattle.std.proofs.lemmas.List.{length-take}
use Rattle.std.specs.Map.{lookup}
use Rattle.lru.proofs.CallerLemmas.{Contains-take}
use Rattle.lru.proofs.Splits.{Contains-cons}
use Rattle.go_rules.specs.Position.{BoardState}
use Rattle.read_cache.specs.Kept.{Kept, IsRight, AreVariants, IsSound, put_first}
use Rattle.read_cache.specs.declared.variants.Variant.{Variant}
use Rattle.read_cache.proofs.Each.{Contains-front, after_put, found_under}

module _ {Q A : Type 0} (meaning : Q → BoardState → A) (eq : Q → Q → Bool) (same : (p q : Q) → eq p q ≡ true → p ≡ q)
  where
    -- the variants that are found under a question are variants of it
    pub found_are : (qs : List (Q × List (Variant A))) (q : Q) (vs : List (Variant A)) → IsSound meaning qs
        → lookup (eq q) qs ≡ Some vs → AreVariants (meaning q) vs
    found_are qs q vs s at_key = found_under (λ p ws. AreVariants (meaning p) ws) eq same q vs qs s.each at_key

    -- what is put first keeps the rest right
    pub IsSound-put_first : (kept : Kept Q A) (q : Q) (vs : List (Variant A)) → IsSound meaning kept.0
        → AreVariants (meaning q) vs → IsSound meaning (put_first eq q vs kept).0
    IsSound-put_first kept q vs s are =
        record { each = after_put (λ p ws. AreVariants (meaning p) ws) eq same q vs kept s.each are }

module _ {A : Type 0} (meaning : BoardState → A) where
  module _ (vs front : List (Variant A)) (i : ℕ) (found : Variant A) (at : vs ≡ take i vs ++ found ∷ drop (i + 1) vs)
      (is : front ≡ found ∷ take i vs ++ drop (i + 1) vs) where
    -- the front has as many as the variants
    as_many : length front ≡ length vs
    as_many = grind (arith, length-append)

    -- the variants with one of them brought to the front are these variants
    pub AreVariants-brought : AreVariants meaning vs → AreVariants meaning front
    AreVariants-brought are = record {
      right = λ v there. are.right v (Contains-front vs front i found at is v there);
      some = omega (arith, as_many, are.some);
      few = omega (arith, as_many, are.few);
    }

  -- a variant that is right before three of the variants
  pub AreVariants-with : (v : Variant A) (vs : List (Variant A)) → IsRight meaning v → AreVariants meaning vs
      → AreVariants meaning (v ∷ take 3 vs)
  AreVariants-with v vs right are = record {
    right = λ w there. elim (Contains-cons v (take 3 vs) w there) [
      | inl same ↦ subst (IsRight meaning) same right
      | inr other ↦ are.right w (Contains-take 3 vs w other)
    ];
    some = omega arith;
    few = let three = length-take 3 vs in omega (arith, three);
  }

  -- one variant that is right
  pub AreVariants-alone : (v : Variant A) → IsRight meaning v → AreVariants meaning (v ∷ [])
  AreVariants-alone v right = grind arith
