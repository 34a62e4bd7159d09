-- What holds of each kept variant goes on to hold, where equal questions are one.
use Rattle.std.proofs.Common.{◌≡◌, ◌⊎◌, inl, inr, sym, subst, Bool, true, Contains, List, [], ◌∷◌, ◌++◌, ◌+◌, take}
use Rattle.std.proofs.Common.{drop, Option, Some, None, refl, ℕ}
use Rattle.std.specs.Map.{lookup}
use Rattle.std.specs.Option.{option_map_or}
use Rattle.std.proofs.lemmas.List.Elements.{Contains-append_left, Contains-append_right, Contains-append_cases}
use Rattle.lru.specs.LruCache.{lru_cache}
use Rattle.lru.proofs.CallerLemmas.{Contains-put_entries, Contains-lookup, Contains-take}
use Rattle.lru.proofs.Splits.{Contains-head, Contains-tail, Contains-cons, Contains-nil}
use Rattle.go_rules.specs.Position.{BoardState}
use Rattle.read_cache.specs.Kept.{Kept, HoldsOfEach, IsBrought, IsFound, put_first, kept_first, variants_of}
use Rattle.read_cache.specs.declared.variants.Variant.{Variant}

-- One of the variants is brought to the front.
module _ {A : Type 0} (vs front : List (Variant A)) (i : ℕ) (found : Variant A)
    (at : vs ≡ take i vs ++ found ∷ drop (i + 1) vs) (is : front ≡ found ∷ take i vs ++ drop (i + 1) vs) where
  -- a variant before, at or after the place is one of the variants
  again : (v : Variant A) → Contains (take i vs ++ found ∷ drop (i + 1) vs) v → Contains vs v
  again v there = subst (λ xs. Contains xs v) (sym at) there

  -- what is from the place on is one of the variants
  from_place : (v : Variant A) → Contains (found ∷ drop (i + 1) vs) v → Contains vs v
  from_place v there = again v (Contains-append_right (take i vs) (found ∷ drop (i + 1) vs) v there)

  -- each variant of the front is one of the variants
  pub Contains-front : (v : Variant A) → Contains front v → Contains vs v
  Contains-front v there =
      elim (Contains-cons found (take i vs ++ drop (i + 1) vs) v (subst (λ xs. Contains xs v) is there)) [
        | inl same ↦
            from_place v (subst (Contains (found ∷ drop (i + 1) vs)) same (Contains-head found (drop (i + 1) vs)))
        | inr other ↦ elim (Contains-append_cases (take i vs) (drop (i + 1) vs) v other) [
          | inl earlier ↦ again v (Contains-append_left (take i vs) (found ∷ drop (i + 1) vs) v earlier)
          | inr later ↦ from_place v (Contains-tail found (drop (i + 1) vs) v later)
        ]
      ]

-- P is a fact about a question and its variants.
module _ {Q A : Type 0} (P : Q → List (Variant A) → Type 0) (eq : Q → Q → Bool)
    (one : (p q : Q) → eq p q ≡ true → p ≡ q) (q : Q) (vs : List (Variant A)) where
  -- it holds of the variants that are found under a question
  pub found_under : (kept : List (Q × List (Variant A)))
      → ((p : Q) (ws : List (Variant A)) → Contains kept (p, ws) → P p ws) → lookup (eq q) kept ≡ Some vs → P q vs
  found_under kept each at_key =
      let key = Contains-lookup (eq q) kept vs at_key in
      subst (λ (p : Q). P p vs) (sym (one q key.0 key.2)) (each key.0 vs key.1)

  -- it holds of each question after one was put first with variants of which it holds
  pub after_put : (old : Kept Q A) → ((p : Q) (ws : List (Variant A)) → Contains old.0 (p, ws) → P p ws) → P q vs
      → (p : Q) (ws : List (Variant A)) → Contains (put_first eq q vs old).0 (p, ws) → P p ws
  after_put old each here p ws there = elim (Contains-put_entries eq (lru_cache old.0 old.1) q vs (p, ws) there) [
    | inl before ↦ each p ws before
    | inr put ↦ subst (P p) (sym put.0) (at_key put.1)
  ]
    where
      at_key : (p ≡ q) ⊎ ((w : List (Variant A)) × Contains old.0 (p, w) × (eq q p ≡ true)) → P p vs
      at_key (inl e) = subst (λ (x : Q). P x vs) (sym e) here
      at_key (inr e) = subst (λ (x : Q). P x vs) (one q p e.2) here

module _ {Q A : Type 0} (P : Q → Variant A → Type 0) (eq : Q → Q → Bool) (one : (p q : Q) → eq p q ≡ true → p ≡ q) where
  -- P holds of a question with each of its variants
  abbrev OfEach : Q → List (Variant A) → Type 0
  OfEach q vs = (v : Variant A) → Contains vs v → P q v

  -- the variants of a question are among those that are kept
  pub of_question : (q : Q) (old : Kept Q A) (vs : List (Variant A)) (v : Variant A) → HoldsOfEach P old
      → variants_of eq q old ≡ Some vs → Contains vs v → P q v
  of_question q old vs v holds kept there =
      found_under OfEach eq one q vs old.0 (λ p ws i w j. holds.each p ws w i j) kept v there

  -- a question is put first with variants of which it holds
  pub HoldsOfEach-put_first : (q : Q) (vs : List (Variant A)) (old : Kept Q A) → HoldsOfEach P old
      → ((v : Variant A) → Contains vs v → P q v) → HoldsOfEach P (put_first eq q vs old)
  HoldsOfEach-put_first q vs old holds new = record {
    each = λ p ws v i j. after_put OfEach eq one q vs old (λ p ws i w j. holds.each p ws w i j) new p ws i v j;
  }

  -- a variant was found, and was one of those that are kept
  brought_holds : (q : Q) (pos : BoardState) (old : Kept Q A) (front : List (Variant A)) (v : Variant A)
      → HoldsOfEach P old → (b : IsBrought eq q pos old front) → Contains front v → P q v
  brought_holds q pos old front v holds b there =
      of_question q old b.variants v holds b.kept
      (Contains-front b.variants front b.place b.first.found b.first.there b.front_is v there)

  -- it holds of what was found
  pub found_holds : (q : Q) (pos : BoardState) (old new : Kept Q A) (answer : A) → HoldsOfEach P old
      → (f : IsFound eq q pos old new answer) → P q f.brought.first.found
  found_holds q pos old new answer holds f = brought_holds q pos old f.front f.brought.first.found holds f.brought
      (subst (λ vs. Contains vs f.brought.first.found) (sym f.brought.front_is) (Contains-head f.brought.first.found _))

  -- and of each variant afterwards
  pub HoldsOfEach-found : (q : Q) (pos : BoardState) (old new : Kept Q A) (answer : A) → HoldsOfEach P old
      → IsFound eq q pos old new answer → HoldsOfEach P new
  HoldsOfEach-found q pos old new answer holds f =
      subst (HoldsOfEach P) (sym f.new_is) (HoldsOfEach-put_first q f.front old holds
      (λ v there. brought_holds q pos old f.front v holds f.brought there))

  -- a variant of which it holds was kept
  pub HoldsOfEach-kept : (q : Q) (v : Variant A) (old : Kept Q A) → HoldsOfEach P old → P q v
      → HoldsOfEach P (kept_first eq q v old)
  HoldsOfEach-kept q v old holds new =
      HoldsOfEach-put_first q _ old holds (λ w there. elim (Contains-cons v _ w there) [
        | inl same ↦ subst (P q) same new
        | inr other ↦ earlier (variants_of eq q old) refl w other
      ])
    where
      earlier : (o : Option (List (Variant A))) → variants_of eq q old ≡ o → (w : Variant A)
          → Contains (option_map_or (λ vs. take 3 vs) o []) w → P q w
      earlier None none w there = absurd (Contains-nil w there)
      earlier (Some vs) kept w there = of_question q old vs w holds kept (Contains-take 3 vs w there)
