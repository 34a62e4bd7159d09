-- The entries of the map: what is looked up, and what is written over.
use Rattle.std.proofs.Common.{◌≡◌, ◌∙◌, refl, sym, ap, subst, ℕ, ◌-◌, Bool, true, List, ◌∷◌, take, Option, Some, None}
use Rattle.std.specs.Option.{option_map, option_map_or}
use Rattle.std.specs.Map.{lookup, lookup_entry, remove_entry, set_value}
use Rattle.lru.specs.LruCache.{promoted}
use Rattle.lru.proofs.CallerLemmas.{Contains-lookup_entry}
use Rattle.lru.proofs.Pairs.{lookup-lookup_entry}
use Rattle.read_cache.specs.Kept.{Kept, IsSound, AreVariants, variants_of, put_first}
use Rattle.read_cache.proofs.CacheSoundness.{found_are, IsSound-put_first}
use Rattle.go_rules.specs.Position.{BoardState}
use Rattle.read_cache.specs.declared.variants.Variant.{Variant}

module _ {K V : Type 0} (test : K → Bool) (es other : List (K × V)) (v w : V) (there : lookup test es ≡ Some v) where
  -- the value of the entry that is found
  of_entry : (o : Option (K × V)) → lookup_entry test es ≡ o → option_map (λ e. e.1) o ≡ Some v
  of_entry o is = ap (option_map (λ e. e.1)) (sym is) ∙ lookup-lookup_entry test es ∙ there

  -- an entry that was put before the others and written over is the first, with what was written
  by_entry : (o : Option (K × V)) → lookup_entry test es ≡ o
      → set_value test (option_map_or (λ e. e ∷ remove_entry test es) o es) w
      ≡ option_map_or (λ e. (e.0, w) ∷ remove_entry test es) o other
  by_entry None is = absurd (let no = of_entry None is in cc)
  by_entry (Some e) is =
      let passes : test e.0 ≡ true = (Contains-lookup_entry test es e is).1 in
      rw passes refl

  -- where a key is there, its entry comes first with what is written over its value
  pub written_first : set_value test (promoted test es) w
      ≡ option_map_or (λ e. (e.0, w) ∷ remove_entry test es) (lookup_entry test es) other
  written_first = by_entry (lookup_entry test es) refl

module _ {Q A : Type 0} (eq : Q → Q → Bool) (k : Q) (es : List (Q × List (Variant A))) (cap : ℕ) (old : Kept Q A)
    (is : (es, cap) ≡ old) where
  -- variants that are looked up are those of the question
  pub variants_of-there : (vs : List (Variant A)) → lookup (eq k) es ≡ Some vs → variants_of eq k old ≡ Some vs
  variants_of-there vs there = ap (variants_of eq k) (sym is) ∙ there

  -- and where there are none it has none
  pub variants_of-none : lookup (eq k) es ≡ None → variants_of eq k old ≡ None
  variants_of-none none = ap (variants_of eq k) (sym is) ∙ none

  -- what is written over its variants, once it is first, is put first
  pub written-put_first : (vs ws : List (Variant A)) → lookup (eq k) es ≡ Some vs
      → (set_value (eq k) (promoted (eq k) es) ws, cap) ≡ put_first eq k ws old
  written-put_first vs ws there =
      ap (λ entries. (entries, cap)) (written_first (eq k) es ((k, ws) ∷ take (cap - 1) es) vs ws there)
      ∙ ap (put_first eq k ws) is

  module _ (meaning : Q → BoardState → A) (same : (p q : Q) → eq p q ≡ true → p ≡ q)
      (sound : IsSound meaning es) (vs : List (Variant A)) (there : lookup (eq k) es ≡ Some vs) where
    -- they are right for it
    pub variants_are : AreVariants (meaning k) vs
    variants_are = found_are meaning eq same es k vs sound there

    -- and what is kept stays right where variants that are right are written over them
    pub IsSound-written : (ws : List (Variant A)) → AreVariants (meaning k) ws
        → IsSound meaning (set_value (eq k) (promoted (eq k) es) ws)
    IsSound-written ws are =
        subst (IsSound meaning) (sym (written_first (eq k) es ((k, ws) ∷ take (cap - 1) es) vs ws there))
        (IsSound-put_first meaning eq same (es, cap) k ws sound are)
