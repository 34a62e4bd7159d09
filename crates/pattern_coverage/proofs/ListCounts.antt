-- Counts of the elements of a list that pass a test.
use Rattle.std.proofs.Common.{min, ◌^◌, ◌-◌, ◌≡◌, ℕ, zero, suc, ◌+◌, ◌*◌, ◌<◌, Bool, true, false, ◌&&◌, cond, eqb}
use Rattle.std.proofs.Common.{List, [], ◌∷◌}
use Rattle.std.proofs.Common.{◌++◌, length, length-append, map, filter, count_by, Contains, refl, sym, ap, ◌∙◌, arith}
use Rattle.std.specs.List.{flat_map, range_with_len}
use Rattle.std.proofs.Math.Nat.{min-eq_left}
use Rattle.std.proofs.lemmas.List.{append-nil}
use Rattle.std.proofs.lemmas.List.Elements.{filter-append}
use Rattle.std.proofs.lemmas.List.Sums.{sum_by-cons, sum_by-append}
use Rattle.match_rules.proofs.Lists.{Contains-first, Contains-rest}

module _ {X : Type 0} where
  -- the first element, and the rest
  pub count-cons : (f : X → Bool) (x : X) (xs : List X) → count_by f (x ∷ xs) ≡ cond (f x) 1 0 + count_by f xs
  count-cons f x xs = sum_by-cons (λ y. cond (f y) 1 0) x xs

  -- two lists
  pub count-append : (f : X → Bool) (xs ys : List X) → count_by f (xs ++ ys) ≡ count_by f xs + count_by f ys
  count-append f xs ys = sum_by-append (λ y. cond (f y) 1 0) xs ys

  -- tests that agree on a list count the same in it
  pub count-same : (f g : X → Bool) (xs : List X) → ((x : X) → Contains xs x → f x ≡ g x)
      → count_by f xs ≡ count_by g xs
  count-same f g [] same = refl
  count-same f g (x ∷ xs) same =
      count-cons f x xs
      ∙ ap (λ b. cond b 1 0 + count_by f xs) (same x (Contains-first x xs x refl))
      ∙ ap (λ n. cond (g x) 1 0 + n) (count-same f g xs (λ y there. same y (Contains-rest x xs y there)))
      ∙ sym (count-cons g x xs)

  -- nothing passes a test that always fails
  pub count-none : (f : X → Bool) (xs : List X) → ((x : X) → f x ≡ false) → count_by f xs ≡ 0
  count-none f [] fails = refl
  count-none f (x ∷ xs) fails =
      count-cons f x xs ∙ ap (λ b. cond b 1 0 + count_by f xs) (fails x)
      ∙ ap (λ n. 0 + n) (count-none f xs fails)

  -- of those that pass a first test, those that pass a second
  pub count-filter : (f test : X → Bool) (xs : List X) → count_by f (filter test xs) ≡ count_by (λ x. test x && f x) xs
  count-filter f test [] = refl
  count-filter f test (x ∷ xs) = by (test x) (count-filter f test xs) ∙ sym (count-cons (λ y. test y && f y) x xs)
    where
      plain : (n : ℕ) → n ≡ 0 + n
      plain n = omega arith

      by : (b : Bool) → count_by f (filter test xs) ≡ count_by (λ y. test y && f y) xs
          → count_by f (cond b (x ∷ filter test xs) (filter test xs))
          ≡ cond (b && f x) 1 0 + count_by (λ y. test y && f y) xs
      by true rest = count-cons f x (filter test xs) ∙ ap (λ n. cond (f x) 1 0 + n) rest
      by false rest = rest ∙ plain (count_by (λ y. test y && f y) xs)

module _ {X Y : Type 0} where
  -- what elements are mapped to
  pub count-map : (f : Y → Bool) (g : X → Y) (xs : List X) → count_by f (map g xs) ≡ count_by (λ x. f (g x)) xs
  count-map f g [] = refl
  count-map f g (x ∷ xs) =
      count-cons f (g x) (map g xs) ∙ ap (λ n. cond (f (g x)) 1 0 + n) (count-map f g xs)
      ∙ sym (count-cons (λ y. f (g y)) x xs)

  -- lists that are joined count the same if each two of them do
  pub count-joined : {Z : Type 0} (f : Y → Bool) (h : Z → Bool) (ys : X → List Y) (zs : X → List Z) (xs : List X)
      → ((x : X) → count_by f (ys x) ≡ count_by h (zs x)) → count_by f (flat_map ys xs) ≡ count_by h (flat_map zs xs)
  count-joined f h ys zs [] same = refl
  count-joined f h ys zs (x ∷ xs) same =
      count-append f (ys x) (flat_map ys xs)
      ∙ ap (λ n. n + count_by f (flat_map ys xs)) (same x)
      ∙ ap (λ n. count_by h (zs x) + n) (count-joined f h ys zs xs same)
      ∙ sym (count-append h (zs x) (flat_map zs xs))

  -- lists of one length that are joined
  pub length-joined : (ys : X → List Y) (n : ℕ) (xs : List X) → ((x : X) → length (ys x) ≡ n)
      → length (flat_map ys xs) ≡ length xs * n
  length-joined ys n [] same = omega arith
  length-joined ys n (x ∷ xs) same =
      length-append (ys x) (flat_map ys xs)
      ∙ ap (λ k. k + length (flat_map ys xs)) (same x) ∙ ap (λ k. n + k) (length-joined ys n xs same)
      ∙ one_more (length xs)
    where
      one_more : (k : ℕ) → n + k * n ≡ suc k * n
      one_more k = grind arith

-- a range with one number more
range-more : (a n : ℕ) → range_with_len a (suc n) ≡ range_with_len a n ++ (a + n) ∷ []
range-more a zero = ap (λ k. k ∷ []) (omega arith)
range-more a (suc n) =
    ap (λ l. a ∷ l) (range-more (a + 1) n)
    ∙ ap (λ k. a ∷ (range_with_len (a + 1) n ++ k ∷ [])) (omega arith)

-- the first n numbers, and the next one
pub range-next : (n : ℕ) → range_with_len 0 (n + 1) ≡ range_with_len 0 n ++ n ∷ []
range-next n =
    let one_more : n + 1 ≡ suc n = omega arith in
    ap (range_with_len 0) one_more ∙ range-more 0 n ∙ ap (λ k. range_with_len 0 n ++ k ∷ []) (omega arith)

-- a list of those that pass is longer by the next number, which passes
pub filtered-longer : (test : ℕ → Bool) (n : ℕ) (old new : List ℕ) → test n ≡ true
    → old ≡ filter test (range_with_len 0 n) → new ≡ old ++ n ∷ [] → new ≡ filter test (range_with_len 0 (n + 1))
filtered-longer test n old new passes was now = grind (arith, range-next, filter-append)

-- a list of those that pass stays, if the next number fails
pub filtered-same : (test : ℕ → Bool) (n : ℕ) (old new : List ℕ) → test n ≡ false
    → old ≡ filter test (range_with_len 0 n) → new ≡ old → new ≡ filter test (range_with_len 0 (n + 1))
filtered-same test n old new fails was now = grind (arith, append-nil, range-next, filter-append)

-- a sum that fits is not cut
pub sum_fits : (a b sum : ℕ) → sum ≡ min (a + b) (2 ^ 64 - 1) → a + b < 2 ^ 64 → sum ≡ a + b
sum_fits a b sum is low = is ∙ min-eq_left (omega (arith, low))

-- a number below seven is one of seven
one_of_seven : (n : ℕ) → n < 7
    → cond (eqb n 0) 1 0 + (cond (eqb n 1) 1 0 + (cond (eqb n 2) 1 0 + (cond (eqb n 3) 1 0 + (cond (eqb n 4) 1 0
    + (cond (eqb n 5) 1 0 + cond (eqb n 6) 1 0))))) ≡ 1
one_of_seven zero low = refl
one_of_seven (suc zero) low = refl
one_of_seven (suc (suc zero)) low = refl
one_of_seven (suc (suc (suc zero))) low = refl
one_of_seven (suc (suc (suc (suc zero)))) low = refl
one_of_seven (suc (suc (suc (suc (suc zero))))) low = refl
one_of_seven (suc (suc (suc (suc (suc (suc zero)))))) low = refl
one_of_seven (suc (suc (suc (suc (suc (suc (suc n))))))) low = absurd (omega arith)

module _ {X : Type 0} (f : X → ℕ) (low : (x : X) → f x < 7) where
  -- how many elements have this number
  abbrev count_at : List X → ℕ → ℕ
  count_at xs n = count_by (λ x. eqb (f x) n) xs

  -- each element has one of seven numbers
  pub seven_counts : (xs : List X) → count_at xs 0 + (count_at xs 1 + (count_at xs 2 + (count_at xs 3 + (count_at xs 4
      + (count_at xs 5 + count_at xs 6))))) ≡ length xs
  seven_counts [] = refl
  seven_counts (x ∷ xs) =
      let first : (n : ℕ) → count_at (x ∷ xs) n ≡ cond (eqb (f x) n) 1 0 + count_at xs n =
      λ n. count-cons (λ y. eqb (f y) n) x xs in
      omega (
        arith,
        first 0,
        first 1,
        first 2,
        first 3,
        first 4,
        first 5,
        first 6,
        one_of_seven (f x) (low x),
        seven_counts xs,
      )
