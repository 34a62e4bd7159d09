-- A kept variant that stands, and how it comes to stand first.
use Rattle.std.proofs.Common.{◌≡◌, ◌∙◌, ap, sym, subst, refl, Bool, Contains, List, ◌∷◌, ◌++◌, ℕ, ◌+◌, ◌-◌}
use Rattle.std.proofs.Common.{take, drop, Option, Some, None, arith}
use Rattle.std.specs.Option.{option_map, option_map_or}
use Rattle.std.specs.Map.{lookup, lookup_entry, remove_entry}
use Rattle.std.proofs.lemmas.List.Elements.{Contains-append_right}
use Rattle.lru.specs.LruCache.{promoted}
use Rattle.lru.proofs.CallerLemmas.{Contains-promoted}
use Rattle.lru.proofs.Pairs.{lookup-lookup_entry}
use Rattle.lru.proofs.Splits.{Contains-head}
use Rattle.go_rules.specs.Position.{BoardState}
use Rattle.read_cache.specs.Kept.{Kept, AreVariants, IsSound, IsFound, variants_of, put_first}
use Rattle.read_cache.specs.Places.{HasAt, StandsAt, front_of}
use Rattle.read_cache.specs.Variants.{IsFirstStanding}
use Rattle.read_cache.specs.declared.variants.Variant.{Variant}
use Rattle.read_cache.proofs.CacheSoundness.{AreVariants-brought}

module _ {A : Type 0} {pos : BoardState} {vs : List (Variant A)} {i : ℕ} (first : IsFirstStanding pos vs i) where
  -- the first that stands is one of the variants
  found_among : Contains vs first.found
  found_among =
      subst (λ xs. Contains xs first.found) (sym first.there)
      (Contains-append_right (take i vs) _ first.found (Contains-head first.found (drop (i + 1) vs)))

  -- its answer is that of the question on the position
  pub found_right : (meaning : BoardState → A) → AreVariants meaning vs → first.found.answer ≡ meaning pos
  found_right meaning are = (are.right first.found found_among).right pos first.stands

module _ {Q A : Type 0} (eq : Q → Q → Bool) (q : Q) (old : Kept Q A) (place : ℕ) where
  -- where a variant stands at a place, the question has a variant there
  abbrev pub HasAt-standing : {pos : BoardState} {answer : A} → StandsAt eq q old place pos answer
      → HasAt eq q old place
  HasAt-standing s = record {
    variants = s.variants;
    found = s.first.found;
    is_kept = s.is_kept;
    within = s.first.within;
    there = s.first.there;
  }

  -- it was found, once its place was brought first
  pub IsFound-standing : (pos : BoardState) (answer : A) (new : Kept Q A) → StandsAt eq q old place pos answer
      → ((at : HasAt eq q old place) → new ≡ put_first eq q (front_of eq q old place at) old)
      → IsFound eq q pos old new answer
  IsFound-standing pos answer new s brought = record {
    front = front_of eq q old place (HasAt-standing s);
    brought = record { variants = s.variants; place = place; kept = s.is_kept; first = s.first; front_is = refl };
    answer_is = s.answer_is;
    new_is = brought (HasAt-standing s);
  }

  module _ (at : HasAt eq q old place) (items : List (Variant A)) (kept : variants_of eq q old ≡ Some items) where
    -- the variants that are looked up are those of the place
    same_variants : at.variants ≡ items
    same_variants = let same = sym at.is_kept ∙ kept in cc

    -- the front of these variants is this one, where some variant is at the place
    abbrev IsFront : List (Variant A) → List (Variant A) → Type 0
    IsFront front vs = (found : Variant A) → vs ≡ take place vs ++ found ∷ drop (place + 1) vs
        → front ≡ found ∷ take place vs ++ drop (place + 1) vs

    -- and what was brought to the front of them is the front of the place
    pub front_is : (slice front : List (Variant A)) → slice ≡ items
        → ((found : Variant A) → slice ≡ take place slice ++ found ∷ drop (place + 1) slice
        → front ≡ found ∷ take place slice ++ drop (place + 1) slice)
        → front ≡ front_of eq q old place at
    front_is slice front is brought = grind (arith, same_variants)

    -- they are right still
    pub front_are : (front : List (Variant A)) (meaning : BoardState → A) → front ≡ front_of eq q old place at
        → AreVariants meaning items → AreVariants meaning front
    front_are front meaning is are =
        let right = subst (AreVariants meaning) (sym same_variants) are in
        AreVariants-brought meaning at.variants front place at.found at.there is right

  -- where the variant is the first already, the front is the variants
  pub front_first : (at : HasAt eq q old place) → place ≡ 0 → front_of eq q old place at ≡ at.variants
  front_first at zero = grind arith

module _ {Q A : Type 0} (eq : Q → Q → Bool) (k : Q) where
  module _ (qs : List (Q × List (Variant A))) (cap : ℕ) (vs : List (Variant A))
      (there : lookup (eq k) qs ≡ Some vs) where
    -- the variants of the entry that is looked up
    of_entry : (o : Option (Q × List (Variant A))) → lookup_entry (eq k) qs ≡ o → option_map (λ e. e.1) o ≡ Some vs
    of_entry o is = ap (option_map (λ e. e.1)) (sym is) ∙ lookup-lookup_entry (eq k) qs ∙ there

    -- an entry that is put before the others comes with the variants that it has
    by_entry : (o : Option (Q × List (Variant A))) → lookup_entry (eq k) qs ≡ o
        → option_map_or (λ e. e ∷ remove_entry (eq k) qs) o qs
        ≡ option_map_or (λ e. (e.0, vs) ∷ remove_entry (eq k) qs) o ((k, vs) ∷ take (cap - 1) qs)
    by_entry None is = absurd (let no = of_entry None is in cc)
    by_entry (Some e) is = grind (arith, of_entry (Some e) is)

    -- a question that is promoted is put first with the variants that it has
    promoted_put : (promoted (eq k) qs, cap) ≡ put_first eq k vs (qs, cap)
    promoted_put = ap (λ es. (es, cap)) (by_entry (lookup_entry (eq k) qs) refl)

  -- and is seen first
  pub promoted_first : (es : List (Q × List (Variant A))) (cap : ℕ) (old : Kept Q A) → (es, cap) ≡ old
      → (vs : List (Variant A)) → variants_of eq k old ≡ Some vs
      → (promoted (eq k) es, cap) ≡ put_first eq k vs old
  promoted_first es cap old is vs there = grind (arith, promoted_put)

  -- what is kept stays right
  pub IsSound-promoted : (meaning : Q → BoardState → A) (es : List (Q × List (Variant A))) → IsSound meaning es
      → IsSound meaning (promoted (eq k) es)
  IsSound-promoted meaning es s =
      record { each = λ q vs there. s.each q vs (Contains-promoted (eq k) es (q, vs) there) }
