-- The first element of a list that passes a test: where it stands, and what becomes of the list when it is changed or
-- taken out.
use Rattle.std.proofs.Common.{◌≡◌, ℕ, suc, ◌+◌, ◌<◌, Bool, true, false, cond, List, [], ◌∷◌, ◌++◌, map, length, take}
use Rattle.std.proofs.Common.{drop, set, get_or, remove, Some, None, find, refl, sym, ap, ◌∙◌, arith}
use Rattle.std.specs.List.{position_from}
use Rattle.std.proofs.lemmas.List.{drop_more, map-append}
use Rattle.std.proofs.lemmas.Option.{same_Some}
use Rattle.std.specs.List.{take-map, drop-map}
use Rattle.helpers.specs.HelperStates.{change_first, remove_first}

-- the n-th element passes the test, and none before it does
pub data IsFirst {X : Type 0} (test : X → Bool) : List X → ℕ → Type 0 where
  here : {x : X} {xs : List X} → test x ≡ true → IsFirst test (x ∷ xs) 0
  later : {x : X} {xs : List X} {n : ℕ} → test x ≡ false → IsFirst test xs n → IsFirst test (x ∷ xs) (suc n)

-- no element passes the test
pub data PassesNone {X : Type 0} (test : X → Bool) : List X → Type 0 where
  none : PassesNone test []
  other : {x : X} {xs : List X} → test x ≡ false → PassesNone test xs → PassesNone test (x ∷ xs)

module _ {X : Type 0} (test : X → Bool) where
  -- what is found behind the first element, by whether this passes
  found_behind : (x : X) (xs : List X) (k i : ℕ)
      → ((i : ℕ) → position_from test (k + 1) xs ≡ Some i → (n : ℕ) × (i ≡ k + 1 + n) × IsFirst test xs n)
      → (b : Bool) → test x ≡ b → cond b (Some k) (position_from test (k + 1) xs) ≡ Some i
      → (n : ℕ) × (i ≡ k + n) × IsFirst test (x ∷ xs) n
  found_behind x xs k i behind true passes e = (0, omega (arith, same_Some k i e), here passes)
  found_behind x xs k i behind false fails e = let found = behind i e in
      (suc found.0, omega (arith, found.1), later fails found.2)

  -- what is found from k on is the first element that passes
  pub found : (xs : List X) (k i : ℕ) → position_from test k xs ≡ Some i → (n : ℕ) × (i ≡ k + n) × IsFirst test xs n
  found [] k i e = absurd cc
  found (x ∷ xs) k i e = found_behind x xs k i (λ i e. found xs (k + 1) i e) (test x) refl e

  -- nothing is found behind the first element, which does not pass either
  missed_behind : (x : X) (xs : List X) (k : ℕ) → (position_from test (k + 1) xs ≡ None → PassesNone test xs)
      → (b : Bool) → test x ≡ b → cond b (Some k) (position_from test (k + 1) xs) ≡ None → PassesNone test (x ∷ xs)
  missed_behind x xs k behind true passes e = absurd cc
  missed_behind x xs k behind false fails e = other fails (behind e)

  -- if nothing is found, no element passes
  pub missed : (xs : List X) (k : ℕ) → position_from test k xs ≡ None → PassesNone test xs
  missed [] k e = none
  missed (x ∷ xs) k e = missed_behind x xs k (λ e. missed xs (k + 1) e) (test x) refl e

  -- the first element that passes is the one that is found
  pub find-first : {xs : List X} {n : ℕ} → IsFirst test xs n → (d : X) → find test xs ≡ Some (get_or xs n d)
  find-first (here {x} {xs} passes) d = ap (λ b. cond b (Some x) (find test xs)) passes
  find-first (later {x} {xs} fails first) d = ap (λ b. cond b (Some x) (find test xs)) fails ∙ find-first first d

  -- if no element passes, none is found
  pub find-none : {xs : List X} → PassesNone test xs → find test xs ≡ None
  find-none none = refl
  find-none (other {x} {xs} fails rest) = ap (λ b. cond b (Some x) (find test xs)) fails ∙ find-none rest

  -- a change of the first element that passes is a write at its place
  pub change_first-first : (change : X → X) {xs : List X} {n : ℕ} → IsFirst test xs n → (d : X)
      → change_first test change xs ≡ set xs n (change (get_or xs n d))
  change_first-first change (here {x} {xs} passes) d =
      ap (λ b. cond b (change x ∷ xs) (x ∷ change_first test change xs)) passes
  change_first-first change (later {x} {xs} fails first) d =
      ap (λ b. cond b (change x ∷ xs) (x ∷ change_first test change xs)) fails
      ∙ ap (λ l. x ∷ l) (change_first-first change first d)

  -- if no element passes, nothing is changed
  pub change_first-none : (change : X → X) {xs : List X} → PassesNone test xs → change_first test change xs ≡ xs
  change_first-none change none = refl
  change_first-none change (other {x} {xs} fails rest) =
      ap (λ b. cond b (change x ∷ xs) (x ∷ change_first test change xs)) fails
      ∙ ap (λ l. x ∷ l) (change_first-none change rest)

  -- the list without the first element that passes
  pub remove_first-first : {xs : List X} {n : ℕ} → IsFirst test xs n → remove_first test xs ≡ remove xs n
  remove_first-first (here {x} {xs} passes) = ap (λ b. cond b xs (x ∷ remove_first test xs)) passes
  remove_first-first (later {x} {xs} fails first) = ap (λ b. cond b xs (x ∷ remove_first test xs)) fails
      ∙ ap (λ l. x ∷ l) (remove_first-first first)

  -- if no element passes, nothing is taken out
  pub remove_first-none : {xs : List X} → PassesNone test xs → remove_first test xs ≡ xs
  remove_first-none none = refl
  remove_first-none (other {x} {xs} fails rest) = ap (λ b. cond b xs (x ∷ remove_first test xs)) fails
      ∙ ap (λ l. x ∷ l) (remove_first-none rest)

-- see is how an element of the list is seen.
module _ {X Y : Type 0} (see : X → Y) (test : Y → Bool) where
  -- the search from the i-th element on
  from : (xs : List X) (i : ℕ) (x : X) → i < length xs
      → position_from test i (map see (drop i xs))
      ≡ cond (test (see (get_or xs i x))) (Some i) (position_from test (i + 1) (map see (drop (i + 1) xs)))
  from xs i x within = ap (λ l. position_from test i (map see l)) (drop_more xs i x within)

-- without the element at a place, as each is seen
pub map-remove : {X Y : Type 0} (see : X → Y) (xs : List X) (n : ℕ) → map see (remove xs n) ≡ remove (map see xs) n
map-remove see xs n = map-append see (take n xs) (drop (suc n) xs)
    ∙ ap (λ l. l ++ map see (drop (suc n) xs)) (sym (take-map see n xs))
    ∙ ap (λ l. take n (map see xs) ++ l) (sym (drop-map see (suc n) xs))
