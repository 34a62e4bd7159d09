-- The first field whose helper says no.
use Rattle.std.proofs.Common.{◌≡◌, ℕ, zero, suc, ◌+◌, ◌<◌, ◌≤◌, length, take, get_or, Bool, true, false, not, ◌&&◌}
use Rattle.std.proofs.Common.{cond, List, [], ◌∷◌, ◌++◌, Option, Some, None, is_some, refl, sym, ap, ◌∙◌, arith}
use Rattle.std.specs.List.{list_all, position_from}
use Rattle.std.proofs.lemmas.Bool.{and_parts, false≢true}
use Rattle.pat_types.specs.declared.pattern.Item.{Item}
use Rattle.helpers.specs.Fields.{names_helper, helper_names, refuses}

-- twice not is as before
twice : (t : Bool) → t ≡ not (not t)
twice true = refl
twice false = refl

module _ (says : List ℕ → Bool) where
  -- all helpers of some fields and one more say yes if it does not say no, and the others all say yes
  agree-cons : (item : Item) (items : List Item)
      → list_all says (helper_names (item ∷ items))
      ≡ (not (refuses says item) && list_all says (helper_names items))
  agree-cons item items = by (names_helper item)
    where
      by : (b : Bool)
          → list_all says (cond b (item.name ∷ helper_names items) (helper_names items))
          ≡ (not (b && not (says item.name)) && list_all says (helper_names items))
      by false = refl
      by true = ap (λ t. t && list_all says (helper_names items)) (twice (says item.name))

  -- no field says no exactly if all helpers say yes
  none_refuses : (items : List Item) (i : ℕ)
      → not (is_some (position_from (refuses says) i items)) ≡ list_all says (helper_names items)
  none_refuses [] i = refl
  none_refuses (item ∷ items) i =
      by (refuses says item) (none_refuses items (i + 1)) ∙ sym (agree-cons item items)
    where
      by : (b : Bool) → not (is_some (position_from (refuses says) (i + 1) items)) ≡ list_all says (helper_names items)
          → not (is_some (cond b (Some i) (position_from (refuses says) (i + 1) items)))
          ≡ (not b && list_all says (helper_names items))
      by true rest = refl
      by false rest = rest

  -- a test for no first field is the test that all helpers say yes
  pub all_agree_if_none : (items : List Item) (o : Option ℕ) (r : Bool) → o ≡ position_from (refuses says) 0 items
      → is_some o ≡ not r → r ≡ list_all says (helper_names items)
  all_agree_if_none items o r first some =
      twice r ∙ ap not (sym some) ∙ ap (λ f. not (is_some f)) first ∙ none_refuses items 0

  -- if all helpers say yes, no field says no
  pub none_first : (items : List Item) (n i : ℕ) → length items ≤ n
      → true ≡ list_all says (helper_names (take n items)) → None ≡ position_from (refuses says) i items
  none_first [] n i all agree = refl
  none_first (x ∷ items) zero i all agree = absurd (omega arith)
  none_first (x ∷ items) (suc n) i all agree =
      let parts = and_parts (not (refuses says x)) (list_all says (helper_names (take n items)))
      (sym (agree ∙ agree-cons x (take n items))) in
      by (refuses says x) parts.0 (none_first items n (i + 1) (omega arith) (sym parts.1))
    where
      by : (b : Bool) → not b ≡ true → None ≡ position_from (refuses says) (i + 1) items
          → None ≡ cond b (Some i) (position_from (refuses says) (i + 1) items)
      by true passed rest = absurd (false≢true passed)
      by false passed rest = rest

  -- the field that says no after those that do not is the first that does
  pub first_refuses : (items : List Item) (from i n : ℕ) (item : Item) → from + i ≡ n → i < length items
      → item ≡ get_or items i item
      → true ≡ list_all says (helper_names (take i items))
      → false ≡ list_all says (helper_names (take i items ++ item ∷ []))
      → Some n ≡ position_from (refuses says) from items
  first_refuses [] from i n item sums within read agree refused = absurd (omega arith)
  first_refuses (x ∷ items) from zero n item sums within read agree refused = by (refuses says x) refl
    where
      by : (b : Bool) → refuses says x ≡ b
          → Some n ≡ cond b (Some from) (position_from (refuses says) (from + 1) items)
      by true is = let same : n ≡ from = omega (arith, sums) in ap Some same
      by false is = absurd (false≢true (refused ∙ ap (λ y. list_all says (helper_names (y ∷ []))) read
          ∙ agree-cons x [] ∙ ap (λ t. not t && true) is))
  first_refuses (x ∷ items) from (suc i) n item sums within read agree refused =
      let parts = and_parts (not (refuses says x)) (list_all says (helper_names (take i items)))
      (sym (agree ∙ agree-cons x (take i items))) in
      by (refuses says x) refl parts.0
      (first_refuses items (from + 1) i n item (omega (arith, sums)) (omega arith) read (sym parts.1)
      (refused ∙ agree-cons x (take i items ++ item ∷ [])
      ∙ ap (λ t. t && list_all says (helper_names (take i items ++ item ∷ []))) parts.0))
    where
      by : (b : Bool) → refuses says x ≡ b → not (refuses says x) ≡ true
          → Some n ≡ position_from (refuses says) (from + 1) items
          → Some n ≡ cond b (Some from) (position_from (refuses says) (from + 1) items)
      by true is passed rest = absurd (false≢true (sym (ap not is) ∙ passed))
      by false is passed rest = rest
