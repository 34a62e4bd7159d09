-- Lists in order, and what is in lists that are made of others.
use Rattle.std.proofs.Common.{◌≡◌, ℕ, zero, suc, ◌+◌, ◌-◌, ◌<◌, ◌≤◌, ◌⊎◌, inl, inr, Bool, true, false, cond, List, []}
use Rattle.std.proofs.Common.{◌∷◌, ◌++◌, get_or, map, filter, Contains, Option, Some, None, slice_get, refl, sym, ap}
use Rattle.std.proofs.Common.{◌∙◌, subst, arith}
use Rattle.std.specs.List.{flat_map, range_with_len, enumerate_from, filter_map, cons_option, list_all, AllPairs}
use Rattle.std.proofs.lemmas.Bool.{cases_Bool, cases_lt, and_parts, and_from}
use Rattle.std.proofs.lemmas.List.Elements.{Contains-get_or, Contains-append_left, Contains-append_right}
use Rattle.std.proofs.lemmas.List.Elements.{Contains-append_cases}
use Rattle.std.proofs.lemmas.List.Kept.{AllPairs-cons}
use Rattle.std.proofs.lemmas.Option.{none-some, same_Some}

module _ {X : Type 0} where
  -- what is in a list is its first element or in the rest
  pub Contains-cons_cases : (x : X) (xs : List X) (z : X) → Contains (x ∷ xs) z → (x ≡ z) ⊎ Contains xs z
  Contains-cons_cases x xs z (zero, l, e) = inl e
  Contains-cons_cases x xs z (suc k, l, e) = inr (k, omega arith, e)

  -- a list has its first element
  pub Contains-first : (x : X) (xs : List X) (z : X) → x ≡ z → Contains (x ∷ xs) z
  Contains-first x xs z e = (0, omega arith, e)

  -- a list has what the rest has
  pub Contains-rest : (x : X) (xs : List X) (z : X) → Contains xs z → Contains (x ∷ xs) z
  Contains-rest x xs z (k, l, e) = (suc k, omega arith, e)

  -- the empty list has nothing
  pub Contains-nil : (z : X) → Contains [] z → ⊥
  Contains-nil z (k, l, e) = omega arith

module _ {X : Type 0} (R : X → X → Type 0) where
  -- the empty list is in order
  pub AllPairs-nil : AllPairs R []
  AllPairs-nil i j d l k = absurd (omega arith)

  -- the rest of a list in order is in order
  pub AllPairs-rest : (x : X) (xs : List X) → AllPairs R (x ∷ xs) → AllPairs R xs
  AllPairs-rest x xs pairs i j d l k = pairs (suc i) (suc j) d (omega arith) (omega arith)

  -- the first element of a list in order comes before the others
  pub AllPairs-before : (x : X) (xs : List X) (z : X) → AllPairs R (x ∷ xs) → Contains xs z → R x z
  AllPairs-before x xs z pairs (k, l, e) = subst (R x) e (pairs 0 (suc k) z (omega arith) (omega arith))

  -- one element more in front, before all others
  pub AllPairs-front : (x : X) (xs : List X) → ((z : X) → Contains xs z → R x z) → AllPairs R xs → AllPairs R (x ∷ xs)
  AllPairs-front x xs before pairs =
      AllPairs-cons R x xs (λ k d l. before (get_or xs k d) (Contains-get_or xs k d l)) pairs

  -- two lists in order, the first before the second
  pub AllPairs-append : (xs ys : List X) → AllPairs R xs → AllPairs R ys
      → ((y z : X) → Contains xs y → Contains ys z → R y z) → AllPairs R (xs ++ ys)
  AllPairs-append [] ys left right before = right
  AllPairs-append (x ∷ xs) ys left right before =
      AllPairs-front x (xs ++ ys)
      (λ z there. elim (Contains-append_cases xs ys z there) [
        | inl in_left ↦ AllPairs-before x xs z left in_left
        | inr in_right ↦ before x z (Contains-first x xs x refl) in_right
      ])
      (AllPairs-append xs ys (AllPairs-rest x xs left) right
      (λ y z here there. before y z (Contains-rest x xs y here) there))

  -- two lists in order with the same elements are the same, if nothing comes before what comes before it
  pub same_in_order : ((x y : X) → R x y → R y x → ⊥) → (xs ys : List X) → AllPairs R xs → AllPairs R ys
      → ((z : X) → Contains xs z → Contains ys z) → ((z : X) → Contains ys z → Contains xs z) → xs ≡ ys
  same_in_order one [] [] left right to back = refl
  same_in_order one [] (y ∷ ys) left right to back = absurd (Contains-nil y (back y (Contains-first y ys y refl)))
  same_in_order one (x ∷ xs) [] left right to back = absurd (Contains-nil x (to x (Contains-first x xs x refl)))
  same_in_order one (x ∷ xs) (y ∷ ys) left right to back =
      let same : x ≡ y = heads (Contains-cons_cases y ys x (to x (Contains-first x xs x refl)))
      (Contains-cons_cases x xs y (back y (Contains-first y ys y refl))) in
      let rest : xs ≡ ys = same_in_order one xs ys (AllPairs-rest x xs left) (AllPairs-rest y ys right)
      (λ z there. elim (Contains-cons_cases y ys z (to z (Contains-rest x xs z there))) [
        | inl first ↦ absurd (let again : R z z =
            subst (λ w. R w z) (same ∙ first) (AllPairs-before x xs z left there) in one z z again again)
        | inr later ↦ later
      ])
      (λ z there. elim (Contains-cons_cases x xs z (back z (Contains-rest y ys z there))) [
        | inl first ↦ absurd (let again : R z z =
            subst (λ w. R w z) (sym same ∙ first) (AllPairs-before y ys z right there) in one z z again again)
        | inr later ↦ later
      ]) in
      ap (λ w. w ∷ xs) same ∙ ap (λ ws. y ∷ ws) rest
    where
      heads : (y ≡ x) ⊎ Contains ys x → (x ≡ y) ⊎ Contains xs y → x ≡ y
      heads (inl e) there = sym e
      heads (inr here) (inl e) = e
      heads (inr here) (inr there) =
          absurd (one x y (AllPairs-before x xs y left there) (AllPairs-before y ys x right here))

module _ {Y : Type 0} where
  -- what a function gives is in the list of what it gives
  given_first : (o : Option Y) (zs : List Y) (z : Y) → Contains (cons_option o zs) z → (o ≡ Some z) ⊎ Contains zs z
  given_first None zs z there = inr there
  given_first (Some y) zs z there = grind (arith, Contains-cons_cases)

  -- what a list has is there with what a function gives before it
  given_later : (o : Option Y) (zs : List Y) (z : Y) → Contains zs z → Contains (cons_option o zs) z
  given_later None zs z there = there
  given_later (Some y) zs z there = Contains-rest y zs z there

module _ {X Y : Type 0} where
  -- what is in a mapped list comes from an element
  pub Contains-map : (f : X → Y) (xs : List X) (z : Y) → Contains (map f xs) z → (x : X) × Contains xs x × (f x ≡ z)
  Contains-map f [] z there = absurd (Contains-nil z there)
  Contains-map f (x ∷ xs) z there =
      grind (arith, Contains-cons_cases, Contains-first, Contains-map f xs z, Contains-rest)

  -- what an element is mapped to is in the mapped list
  pub Contains-map_from : (f : X → Y) (xs : List X) (x : X) → Contains xs x → Contains (map f xs) (f x)
  Contains-map_from f [] x there = absurd (Contains-nil x there)
  Contains-map_from f (w ∷ xs) x there =
      grind (arith, Contains-cons_cases, Contains-first, Contains-rest, Contains-map_from f xs x)

  -- what is in lists that are joined is in one of them
  pub Contains-flat_map : (f : X → List Y) (xs : List X) (z : Y) → Contains (flat_map f xs) z
      → (x : X) × Contains xs x × Contains (f x) z
  Contains-flat_map f [] z there = absurd (Contains-nil z there)
  Contains-flat_map f (x ∷ xs) z there = elim (Contains-append_cases (f x) (flat_map f xs) z there) [
    | inl first ↦ (x, Contains-first x xs x refl, first)
    | inr later ↦ let rest = Contains-flat_map f xs z later in (rest.0, Contains-rest x xs rest.0 rest.1, rest.2)
  ]

  -- what is in one of the lists is in the joined list
  pub Contains-flat_map_from : (f : X → List Y) (xs : List X) (x : X) (z : Y) → Contains xs x → Contains (f x) z
      → Contains (flat_map f xs) z
  Contains-flat_map_from f [] x z there here = absurd (Contains-nil x there)
  Contains-flat_map_from f (w ∷ xs) x z there here = elim (Contains-cons_cases w xs x there) [
    | inl first ↦ Contains-append_left (f w) (flat_map f xs) z (subst (λ v. Contains (f v) z) (sym first) here)
    | inr later ↦ Contains-append_right (f w) (flat_map f xs) z (Contains-flat_map_from f xs x z later here)
  ]

  -- what is in a list of what a function gives comes from an element
  pub Contains-filter_map : (f : X → Option Y) (xs : List X) (z : Y) → Contains (filter_map f xs) z
      → (x : X) × Contains xs x × (f x ≡ Some z)
  Contains-filter_map f [] z there = absurd (Contains-nil z there)
  Contains-filter_map f (x ∷ xs) z there =
      grind (arith, given_first, Contains-first, Contains-filter_map f xs z, Contains-rest)

  -- what a function gives for an element is in the list of what it gives
  pub Contains-filter_map_from : (f : X → Option Y) (xs : List X) (x : X) (z : Y) → Contains xs x → f x ≡ Some z
      → Contains (filter_map f xs) z
  Contains-filter_map_from f [] x z there e = absurd (Contains-nil x there)
  Contains-filter_map_from f (w ∷ xs) x z there e =
      grind (arith, Contains-cons_cases, Contains-first, given_later, Contains-filter_map_from f xs x z)

module _ {X : Type 0} (test : X → Bool) where
  -- what passes a filter is in the list, and passes the test
  pub Contains-filter : (xs : List X) (z : X) → Contains (filter test xs) z → Contains xs z × (test z ≡ true)
  Contains-filter [] z there = absurd (Contains-nil z there)
  Contains-filter (x ∷ xs) z there =
      grind (arith, Contains-filter xs z, Contains-rest, cases_Bool, Contains-cons_cases, Contains-first)

  -- an element that passes the test passes the filter
  pub Contains-filter_from : (xs : List X) (z : X) → Contains xs z → test z ≡ true → Contains (filter test xs) z
  Contains-filter_from [] z there e = absurd (Contains-nil z there)
  Contains-filter_from (x ∷ xs) z there e = elim (Contains-cons_cases x xs z there) [
    | inl first ↦ subst (λ b. Contains (cond b (x ∷ filter test xs) (filter test xs)) z) (sym (ap test first ∙ e))
        (Contains-first x (filter test xs) z first)
    | inr later ↦ kept (test x) (Contains-filter_from xs z later e)
  ]
    where
      kept : (b : Bool) → Contains (filter test xs) z → Contains (cond b (x ∷ filter test xs) (filter test xs)) z
      kept true here = Contains-rest x (filter test xs) z here
      kept false here = here

  -- where a test passes each element of a list
  pub passes_each : (xs : List X) → list_all test xs ≡ true → (z : X) → Contains xs z → test z ≡ true
  passes_each [] e z there = absurd (Contains-nil z there)
  passes_each (x ∷ xs) e z there = grind (arith, and_parts, Contains-cons_cases, passes_each xs)

  -- a list passes whose elements all pass
  pub passes_all : (xs : List X) → ((z : X) → Contains xs z → test z ≡ true) → list_all test xs ≡ true
  passes_all [] each = refl
  passes_all (x ∷ xs) each =
      and_from (test x) (list_all test xs) (each x (Contains-first x xs x refl))
      (passes_all xs (λ z there. each z (Contains-rest x xs z there)))

-- the numbers of a range
pub Contains-range : (a n k : ℕ) → Contains (range_with_len a n) k → (a ≤ k) × (k < a + n)
Contains-range a zero k there = absurd (Contains-nil k there)
Contains-range a (suc n) k there = grind (arith, Contains-cons_cases, Contains-range (a + 1) n k)

-- a range has its numbers
pub Contains-range_from : (a n k : ℕ) → a ≤ k → k < a + n → Contains (range_with_len a n) k
Contains-range_from a zero k low high = absurd (omega arith)
Contains-range_from a (suc n) k low high = elim (cases_lt a k) [
  | inl later ↦ Contains-rest a (range_with_len (a + 1) n) k
      (Contains-range_from (a + 1) n k (omega arith) (omega arith))
  | inr first ↦ let same : a ≡ k = omega arith in Contains-first a (range_with_len (a + 1) n) k same
]

-- the numbers of a range from 0 are below its length
pub Contains-below : (n k : ℕ) → Contains (range_with_len 0 n) k → k < n
Contains-below n k there = let high = (Contains-range 0 n k there).1 in omega (arith, high)

-- a range from 0 has the numbers below its length
pub Contains-below_from : (n k : ℕ) → k < n → Contains (range_with_len 0 n) k
Contains-below_from n k low = Contains-range_from 0 n k (omega arith) (omega arith)

-- the numbers of a range rise
pub range_rises : (a n : ℕ) → AllPairs (λ j k. j < k) (range_with_len a n)
range_rises a zero = AllPairs-nil (λ j k. j < k)
range_rises a (suc n) = AllPairs-front (λ j k. j < k) a (range_with_len (a + 1) n)
    (λ z there. let low = (Contains-range (a + 1) n z there).0 in omega (arith, low)) (range_rises (a + 1) n)

module _ {X : Type 0} where
  -- a numbered element is that of its number
  pub Contains-enumerate : (a : ℕ) (xs : List X) (z : ℕ × X) → Contains (enumerate_from a xs) z
      → (a ≤ z.0) × (slice_get xs (z.0 - a) ≡ Some z.1)
  Contains-enumerate a [] z there = absurd (Contains-nil z there)
  Contains-enumerate a (x ∷ xs) z there = grind (arith, Contains-cons_cases, Contains-enumerate (a + 1) xs z)

  -- the element at a place is numbered by it
  pub Contains-enumerate_from : (a : ℕ) (xs : List X) (i : ℕ) (x : X) → slice_get xs i ≡ Some x
      → Contains (enumerate_from a xs) (a + i, x)
  Contains-enumerate_from a [] i x e = absurd (none-some x e)
  Contains-enumerate_from a (w ∷ xs) zero x e = grind (arith, Contains-first, same_Some)
  Contains-enumerate_from a (w ∷ xs) (suc i) x e =
      grind (arith, Contains-rest, Contains-enumerate_from (a + 1) xs i x e)

  -- the numbers of numbered elements rise
  pub enumerate_rises : (a : ℕ) (xs : List X) → AllPairs (λ y z. y.0 < z.0) (enumerate_from a xs)
  enumerate_rises a [] = AllPairs-nil (λ y z. y.0 < z.0)
  enumerate_rises a (x ∷ xs) =
      AllPairs-front (λ y z. y.0 < z.0) (a, x) (enumerate_from (a + 1) xs)
      (λ z there. let low = (Contains-enumerate (a + 1) xs z there).0 in
      omega (arith, low)) (enumerate_rises (a + 1) xs)

module _ {X Y : Type 0} (R : Y → Y → Type 0) where
  -- a mapped list is in order where the elements are
  pub AllPairs-map : (f : X → Y) (xs : List X) → AllPairs (λ x w. R (f x) (f w)) xs → AllPairs R (map f xs)
  AllPairs-map f [] pairs = AllPairs-nil R
  AllPairs-map f (x ∷ xs) pairs =
      AllPairs-front R (f x) (map f xs)
      (λ z there. let from = Contains-map f xs z there in
      subst (R (f x)) from.2 (AllPairs-before (λ v w. R (f v) (f w)) x xs from.0 pairs from.1))
      (AllPairs-map f xs (AllPairs-rest (λ v w. R (f v) (f w)) x xs pairs))

  -- joined lists are in order if each is, and what is in an earlier one comes before what is in a later one
  pub AllPairs-flat_map : (Q : X → X → Type 0) (f : X → List Y) (xs : List X) → AllPairs Q xs
      → ((x : X) → AllPairs R (f x))
      → ((x w : X) (y z : Y) → Q x w → Contains (f x) y → Contains (f w) z → R y z) → AllPairs R (flat_map f xs)
  AllPairs-flat_map Q f [] pairs each before = AllPairs-nil R
  AllPairs-flat_map Q f (x ∷ xs) pairs each before =
      AllPairs-append R (f x) (flat_map f xs) (each x)
      (AllPairs-flat_map Q f xs (AllPairs-rest Q x xs pairs) each before)
      (λ y z here there. let from = Contains-flat_map f xs z there in
      before x from.0 y z (AllPairs-before Q x xs from.0 pairs from.1) here from.2)
