-- A question that was just used stays among the first that are kept, and the variant that was used among its first
-- ones, while few others are used.
use Rattle.std.proofs.Common.{◌≡◌, ◌∙◌, inl, inr, sym, ap, subst, cond, Contains, List, [], ◌∷◌, ◌++◌, ℕ, zero}
use Rattle.std.proofs.Common.{suc, ◌+◌, ◌-◌, ◌≤◌, take, drop, Bool, true, false, Option, Some, None, arith}
use Rattle.std.proofs.lemmas.List.{take-take}
use Rattle.std.specs.Option.{option_map_or}
use Rattle.std.specs.Map.{lookup, lookup_entry, remove_entry}
use Rattle.lru.proofs.CallerLemmas.{Contains-take, Contains-lookup_entry}
use Rattle.lru.proofs.Splits.{Contains-head, Contains-tail, Contains-cons, Contains-nil}
use Rattle.go_rules.specs.Position.{BoardState}
use Rattle.read_cache.proofs.Each.{of_question}
use Rattle.read_cache.specs.Kept.{Kept, HoldsOfEach, IsFound, IsMissing, put_first, kept_first, variants_of}
use Rattle.read_cache.specs.Kept.{variants_with}
use Rattle.read_cache.specs.Variants.{Stands}
use Rattle.read_cache.specs.declared.variants.Variant.{Variant}

-- what is among the first n is among the first n and one more
Contains-more : {X : Type 0} (n : ℕ) (xs : List X) (x : X) → Contains (take n xs) x → Contains (take (suc n) xs) x
Contains-more zero xs x there = absurd (Contains-nil x there)
Contains-more (suc n) [] x there = there
Contains-more (suc n) (y ∷ xs) x there = elim (Contains-cons y (take n xs) x there) [
  | inl same ↦ subst (Contains (y ∷ take (suc n) xs)) same (Contains-head y (take (suc n) xs))
  | inr later ↦ Contains-tail y (take (suc n) xs) x (Contains-more n xs x later)
]

-- what is among the first n of a list is an element that is left out, or among the first n of the others
Contains-others : {X : Type 0} (n : ℕ) (xs : List X) (y : X) (ys : List X) (x : X) → Contains (take n (xs ++ y ∷ ys)) x
    → Contains (take (suc n) (y ∷ xs ++ ys)) x
Contains-others zero xs y ys x there = absurd (Contains-nil x there)
Contains-others (suc n) [] y ys x there = Contains-more (suc n) (y ∷ ys) x there
Contains-others (suc n) (z ∷ xs) y ys x there = elim (Contains-cons z (take n (xs ++ y ∷ ys)) x there) [
  | inl same ↦ Contains-tail y (z ∷ take n (xs ++ ys)) x
      (subst (Contains (z ∷ take n (xs ++ ys))) same (Contains-head z (take n (xs ++ ys))))
  | inr later ↦ elim (Contains-cons y (take n (xs ++ ys)) x (Contains-others n xs y ys x later)) [
    | inl left_out ↦ subst (Contains (y ∷ z ∷ take n (xs ++ ys))) left_out (Contains-head y (z ∷ take n (xs ++ ys)))
    | inr other ↦ Contains-tail y (z ∷ take n (xs ++ ys)) x (Contains-tail z (take n (xs ++ ys)) x other)
  ]
]

module _ {K V : Type 0} (test : K → Bool) where
  -- a choice that finds goes on to find
  found_still : (b : Bool) (here more less : Option V) (v : V) → (less ≡ Some v → more ≡ Some v)
      → cond b here less ≡ Some v → cond b here more ≡ Some v
  found_still true here more less v later found = found
  found_still false here more less v later found = later found

  -- what is found among the first n entries is found among one more
  lookup-more : (n : ℕ) (es : List (K × V)) (v : V) → lookup test (take n es) ≡ Some v
      → lookup test (take (suc n) es) ≡ Some v
  lookup-more zero es v found = absurd (let none : None ≡ Some v = found in cc)
  lookup-more (suc n) [] v found = found
  lookup-more (suc n) (e ∷ es) v found = grind (arith, found_still, lookup-more n es v)

  -- and among all
  lookup-all : (n : ℕ) (es : List (K × V)) (v : V) → lookup test (take n es) ≡ Some v → lookup test es ≡ Some v
  lookup-all zero es v found = absurd (let none : None ≡ Some v = found in cc)
  lookup-all (suc n) [] v found = found
  lookup-all (suc n) (e ∷ es) v found = grind (arith, found_still, lookup-all n es v)

  -- taking out an entry that another test passes moves none back
  lookup-removed : (other : K → Bool) → ((k : K) → other k ≡ true → test k ≡ false)
      → (n : ℕ) (es : List (K × V)) (v : V)
      → lookup test (take n es) ≡ Some v → lookup test (take n (remove_entry other es)) ≡ Some v
  lookup-removed other apart zero es v found = found
  lookup-removed other apart (suc n) [] v found = found
  lookup-removed other apart (suc n) (e ∷ es) v found =
      grind (arith, lookup-more, found_still, lookup-removed other apart n es v)

-- a question that equals one of two questions that differ differs from the other
apart : {Q : Type 0} (eq : Q → Q → Bool) → ((p q : Q) → eq p q ≡ true → p ≡ q) → ((q : Q) → eq q q ≡ true) → (p q r : Q)
    → eq p q ≡ false → eq p r ≡ true → eq q r ≡ false
apart eq one self p q r other same = grind arith

module _ {Q A : Type 0} (eq : Q → Q → Bool) where
  -- the question is among the first n that are kept, and the variant among its first n
  pub record IsAmongFirst (q : Q) (v : Variant A) (n : ℕ) (kept : Kept Q A) : Type 0 where
    pub variants : List (Variant A)
    pub question : lookup (eq q) (take n kept.0) ≡ Some variants
    pub variant : Contains (take n variants) v

  -- so the variant is kept
  pub kept_variants : (q : Q) (v : Variant A) (n : ℕ) (kept : Kept Q A) (among : IsAmongFirst q v n kept)
      → variants_of eq q kept ≡ Some among.variants
  kept_variants q v n kept among = lookup-all (eq q) n kept.0 among.variants among.question

  -- what holds of each kept variant holds of it, where equal questions are one
  pub of_first : (P : Q → Variant A → Type 0) → ((p q : Q) → eq p q ≡ true → p ≡ q) → (q : Q) (v : Variant A) (n : ℕ)
      (kept : Kept Q A) → HoldsOfEach P kept → IsAmongFirst q v n kept → P q v
  of_first P one q v n kept holds among =
      of_question P eq one q kept among.variants v holds (kept_variants q v n kept among)
      (Contains-take n among.variants v among.variant)

  -- and where it stands, the question is not missing
  pub IsAmongFirst-stands : (q : Q) (v : Variant A) (n : ℕ) (kept : Kept Q A) (pos : BoardState)
      → IsAmongFirst q v n kept → Stands pos v
      → IsMissing eq q pos kept → ⊥
  IsAmongFirst-stands q v n kept pos among stands missing =
      (missing.none among.variants (kept_variants q v n kept among)).none v
      (Contains-take n among.variants v among.variant) stands

  module _ (one : (p q : Q) → eq p q ≡ true → p ≡ q) (self : (q : Q) → eq q q ≡ true) where
    -- the entries after a question was put first
    abbrev after : Q → List (Variant A) → Kept Q A → Option (Q × List (Variant A)) → List (Q × List (Variant A))
    after p vs old o = option_map_or (λ e. (e.0, vs) ∷ remove_entry (eq p) old.0) o ((p, vs) ∷ take (old.1 - 1) old.0)

    -- a question that is put first stands there
    put_there : (q : Q) (vs : List (Variant A)) (old : Kept Q A) (n : ℕ) (o : Option (Q × List (Variant A)))
        → lookup_entry (eq q) old.0 ≡ o
        → lookup (eq q) (take (suc n) (after q vs old o)) ≡ Some vs
    put_there q vs old n None none = grind arith
    put_there q vs old n (Some e) there =
        ap (λ b. cond b (Some vs) (lookup (eq q) (take n (remove_entry (eq q) old.0))))
        (Contains-lookup_entry (eq q) old.0 e there).1

    -- with its variants
    pub IsAmongFirst-put : (q : Q) (vs : List (Variant A)) (old : Kept Q A) (n : ℕ) (v : Variant A)
        → Contains (take (suc n) vs) v
        → IsAmongFirst q v (suc n) (put_first eq q vs old)
    IsAmongFirst-put q vs old n v there = grind (arith, put_there)

    -- another question is put first, and this one moves back by one place at most
    moved : (p q : Q) (vs : List (Variant A)) (old : Kept Q A) (n : ℕ) (ws : List (Variant A)) → eq p q ≡ false
        → n ≤ old.1 - 1
        → lookup (eq q) (take n old.0) ≡ Some ws → (o : Option (Q × List (Variant A))) → lookup_entry (eq p) old.0 ≡ o
        → lookup (eq q) (take (suc n) (after p vs old o)) ≡ Some ws
    moved p q vs old n ws other room found None none = grind (arith, apart, take-take)
    moved p q vs old n ws other room found (Some e) there =
        ap (λ b. cond b (Some vs) (lookup (eq q) (take n (remove_entry (eq p) old.0))))
        (apart eq one self p q e.0 other (Contains-lookup_entry (eq p) old.0 e there).1)
        ∙ lookup-removed (eq q) (eq p) (λ k. apart eq one self p q k other) n old.0 ws found

    -- with its variants as they were
    IsAmongFirst-other : (p q : Q) (vs : List (Variant A)) (old : Kept Q A) (n : ℕ) (v : Variant A) → eq p q ≡ false
        → n ≤ old.1 - 1
        → IsAmongFirst q v n old → IsAmongFirst q v (suc n) (put_first eq p vs old)
    IsAmongFirst-other p q vs old n v other room among = grind (arith, moved, Contains-more)

    -- a question was put first, with variants that hold this one where it is this question
    either : (p q : Q) (vs : List (Variant A)) (old : Kept Q A) (n : ℕ) (v : Variant A) → n ≤ old.1 - 1
        → IsAmongFirst q v n old
        → (p ≡ q → Contains (take (suc n) vs) v) → IsAmongFirst q v (suc n) (put_first eq p vs old)
    either p q vs old n v room among there = grind (arith, IsAmongFirst-put, IsAmongFirst-other)

    -- the variant of a question that is kept goes first
    pub IsAmongFirst-kept : (p q : Q) (w v : Variant A) (old : Kept Q A) (n : ℕ) → n ≤ 3 → n ≤ old.1 - 1
        → IsAmongFirst q v n old
        → IsAmongFirst q v (suc n) (kept_first eq p w old)
    IsAmongFirst-kept p q w v old n few room among = either p q (variants_with eq p w old) old n v room among (λ same.
        let kept = subst (λ x. variants_of eq x old ≡ Some among.variants) (sym same) (kept_variants q v n old among) in
        let there = Contains-tail w (take n (take 3 among.variants)) v
        (subst (λ vs. Contains vs v) (sym (take-take n 3 among.variants few)) among.variant) in
        subst (λ (o : Option (List (Variant A))). Contains (take (suc n) (w ∷ option_map_or (λ vs. take 3 vs) o [])) v)
        (sym kept) there)

    -- a variant that was found goes first
    pub IsAmongFirst-found : (p q : Q) (pos : BoardState) (old new : Kept Q A) (answer : A) (v : Variant A) (n : ℕ)
        → n ≤ old.1 - 1
        → IsAmongFirst q v n old → IsFound eq p pos old new answer → IsAmongFirst q v (suc n) new
    IsAmongFirst-found p q pos old new answer v n room among found =
        let b = found.brought in
        subst (IsAmongFirst q v (suc n)) (sym found.new_is) (either p q found.front old n v room among (λ same.
        let kept = subst (λ x. variants_of eq x old ≡ Some among.variants) (sym same) (kept_variants q v n old among) in
        let these : among.variants ≡ b.variants = (let both = sym kept ∙ b.kept in cc) in
        let here : Contains (take n (take b.place b.variants ++ b.first.found ∷ drop (b.place + 1) b.variants)) v =
        subst (λ vs. Contains (take n vs) v) (these ∙ b.first.there) among.variant in
        subst (λ vs. Contains (take (suc n) vs) v) (sym b.front_is)
        (Contains-others n (take b.place b.variants) b.first.found (drop (b.place + 1) b.variants) v here)))

    -- what is kept first is the first variant of the first question
    pub IsAmongFirst-first : (q : Q) (w : Variant A) (old : Kept Q A) → IsAmongFirst q w 1 (kept_first eq q w old)
    IsAmongFirst-first q w old = IsAmongFirst-put q (variants_with eq q w old) old 0 w (Contains-head w [])

    -- and so is what was found
    pub IsAmongFirst-again : (q : Q) (pos : BoardState) (old new : Kept Q A) (answer : A)
        (found : IsFound eq q pos old new answer)
        → IsAmongFirst q found.brought.first.found 1 new
    IsAmongFirst-again q pos old new answer found = grind (arith, IsAmongFirst-put)
