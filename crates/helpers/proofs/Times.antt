-- How often a helper is asked for a list of names, when a name is put at the end of the list.
use Rattle.std.proofs.Common.{◌≡◌, ℕ, inl, inr, Bool, true, false, cond, List, [], ◌∷◌, ◌++◌, refl, sym, ap, subst, ◌∙◌}
use Rattle.std.proofs.Common.{arith}
use Rattle.std.specs.List.{list_all, list_any}
use Rattle.std.specs.Str.{bytes_eq}
use Rattle.std.proofs.lemmas.Bool.{and_parts, and_cases, or_cases, or_parts, true≢false, false_from_ne_true}
use Rattle.std.proofs.lemmas.Slice.Eq.{bytes_eq-Decides}
use Rattle.helpers.specs.Agreement.{times_asked}

-- a name that is compared as equal is the same
pub same_name : (a b : List ℕ) → bytes_eq a b ≡ true → a ≡ b
same_name a b e = (bytes_eq-Decides a b).0 e

-- a name is compared as equal to itself
pub itself : (a : List ℕ) → bytes_eq a a ≡ true
itself a = (bytes_eq-Decides a a).1 refl

-- which of two names is compared with the other does not matter
pub bytes_eq-false : (a b : List ℕ) → bytes_eq a b ≡ false → bytes_eq b a ≡ false
bytes_eq-false a b apart = grind (arith, false_from_ne_true (bytes_eq b a), same_name b a, itself b, true≢false)

-- both ways ask for nothing
both_none : (b : Bool) → ◌≡◌ {A = ℕ} (cond b 0 0) 0
both_none true = refl
both_none false = refl

-- a choice by a test that passes
at_true : {A : Type 0} (b : Bool) (x y : A) → b ≡ true → cond b x y ≡ x
at_true b x y e = ap (λ t. cond t x y) e

-- a choice by a test that fails
at_false : {A : Type 0} (b : Bool) (x y : A) → b ≡ false → cond b x y ≡ y
at_false b x y e = ap (λ t. cond t x y) e

module _ (on says : List ℕ → Bool) where
  -- how often the helper of a name is asked for names in turn
  times : List (List ℕ) → List ℕ → ℕ
  times = times_asked on says

  -- what is asked behind the first name changes alike
  behind : (k : List ℕ) (ks ls : List (List ℕ)) (n : List ℕ) → times_asked on says ks n ≡ times_asked on says ls n
      → times_asked on says (k ∷ ks) n ≡ times_asked on says (k ∷ ls) n
  behind k ks ls n same = ap (λ t. cond (bytes_eq k n) (cond (on k) 1 0) (cond (says k) t 0)) same

  -- another name at the end asks no more
  pub times-other : (ms : List (List ℕ)) (m n : List ℕ) → bytes_eq m n ≡ false
      → times_asked on says (ms ++ m ∷ []) n ≡ times_asked on says ms n
  times-other [] m n apart = at_false (bytes_eq m n) (cond (on m) 1 0) (cond (says m) 0 0) apart ∙ both_none (says m)
  times-other (k ∷ ks) m n apart = behind k (ks ++ m ∷ []) ks n (times-other ks m n apart)

  -- a name that stands there already asks no more
  pub times-again : (ms : List (List ℕ)) (m n : List ℕ) → list_any (λ k. bytes_eq k m) ms ≡ true
      → times_asked on says (ms ++ m ∷ []) n ≡ times_asked on says ms n
  times-again [] m n there = absurd (true≢false (sym there))
  times-again (k ∷ ks) m n there =
      elim (or_cases (bytes_eq k m) (list_any (λ j. bytes_eq j m) ks) there) [
        | inl same ↦ by_first (bytes_eq k n) refl (same_name k m same)
        | inr later ↦ behind k (ks ++ m ∷ []) ks n (times-again ks m n later)
      ]
    where
      by_first : (b : Bool) → bytes_eq k n ≡ b → k ≡ m
          → times_asked on says (k ∷ (ks ++ m ∷ [])) n ≡ times_asked on says (k ∷ ks) n
      by_first true e same =
          at_true (bytes_eq k n) (cond (on k) 1 0) (cond (says k) (times_asked on says (ks ++ m ∷ []) n) 0) e
          ∙ sym (at_true (bytes_eq k n) (cond (on k) 1 0) (cond (says k) (times_asked on says ks n) 0) e)
      by_first false e same =
          behind k (ks ++ m ∷ []) ks n (times-other ks m n (subst (λ j. bytes_eq j n ≡ false) same e))

  -- a name that is not there is not asked
  pub times-none : (ms : List (List ℕ)) (m : List ℕ) → list_any (λ k. bytes_eq k m) ms ≡ false
      → times_asked on says ms m ≡ 0
  times-none [] m gone = refl
  times-none (k ∷ ks) m gone =
      let parts = or_parts (bytes_eq k m) (list_any (λ j. bytes_eq j m) ks) gone in
      at_false (bytes_eq k m) (cond (on k) 1 0) (cond (says k) (times_asked on says ks m) 0) parts.0
      ∙ ap (λ t. cond (says k) t 0) (times-none ks m parts.1) ∙ both_none (says k)

  -- a new name at the end, where all before it say yes, is asked once, if it is on
  pub times-new : (ms : List (List ℕ)) (m : List ℕ) → list_all says ms ≡ true → list_any (λ k. bytes_eq k m) ms ≡ false
      → times_asked on says (ms ++ m ∷ []) m ≡ cond (on m) 1 0
  times-new [] m agree gone = at_true (bytes_eq m m) (cond (on m) 1 0) (cond (says m) 0 0) (itself m)
  times-new (k ∷ ks) m agree gone =
      let parts = or_parts (bytes_eq k m) (list_any (λ j. bytes_eq j m) ks) gone in
      let yes = and_parts (says k) (list_all says ks) agree in
      at_false (bytes_eq k m) (cond (on k) 1 0) (cond (says k) (times_asked on says (ks ++ m ∷ []) m) 0) parts.0
      ∙ at_true (says k) (times_asked on says (ks ++ m ∷ []) m) 0 yes.0
      ∙ times-new ks m yes.1 parts.1

  -- behind a name whose helper says no, none is asked
  pub times-stop : (ms rest : List (List ℕ)) (n : List ℕ) → list_all says ms ≡ false
      → times_asked on says (ms ++ rest) n ≡ times_asked on says ms n
  times-stop [] rest n stop = absurd (true≢false stop)
  times-stop (k ∷ ks) rest n stop =
      elim (and_cases (says k) (list_all says ks) stop) [
        | inl here ↦ ap (λ t. cond (bytes_eq k n) (cond (on k) 1 0) t)
            (at_false (says k) (times_asked on says (ks ++ rest) n) 0 here
            ∙ sym (at_false (says k) (times_asked on says ks n) 0 here))
        | inr later ↦ behind k (ks ++ rest) ks n (times-stop ks rest n later)
      ]

  -- a name that stands among names that all say yes says yes
  pub says-again : (ms : List (List ℕ)) (m : List ℕ) → list_all says ms ≡ true → list_any (λ k. bytes_eq k m) ms ≡ true
      → says m ≡ true
  says-again [] m agree there = absurd (true≢false (sym there))
  says-again (k ∷ ks) m agree there =
      let yes = and_parts (says k) (list_all says ks) agree in
      elim (or_cases (bytes_eq k m) (list_any (λ j. bytes_eq j m) ks) there) [
        | inl same ↦ subst (λ j. says j ≡ true) (same_name k m same) yes.0
        | inr later ↦ says-again ks m yes.1 later
      ]
