-- The points whose plays succeed, found one after another among those that are tried.
use Rattle.std.proofs.Common.{◌≡◌, ◌≢◌, ◌∙◌, ℕ, ◌+◌, ◌<◌, ◌≤◌, ◌&&◌, Bool, true, false, ltb, refl, sym, ap, arith}
use Rattle.std.specs.Ordering.{nat_cmp}
use Rattle.std.specs.FinSet as sets
use Rattle.std.proofs.lemmas.Bool.{cases_eq, cases_lt, lt-ltb, le-ltb, eq-eqb, ne_eqb}
use Rattle.go_rules.proofs.Sets.{contains-insert_nat}

-- the set has the tried points below n whose plays succeed
abbrev pub HasBelow : (ℕ → Bool) → (ℕ → Bool) → ℕ → sets.FinSet nat_cmp → Type 0
HasBelow tried wins n found = (q : ℕ) → sets.contains found q ≡ (ltb q n && (tried q && wins q))

-- a point that fails a test passes no two
fails : (b : Bool) → (b && false) ≡ false
fails true = refl
fails false = refl

-- nor any three
fails_of_three : (a b : Bool) → (a && (b && false)) ≡ false
fails_of_three true true = refl
fails_of_three true false = refl
fails_of_three false b = refl

-- below the first point nothing is found
pub none_below : (tried wins : ℕ → Bool) (found : sets.FinSet nat_cmp) → found ≡ sets.empty
    → HasBelow tried wins 0 found
none_below tried wins found e q =
    ap (λ f. sets.contains f q) e ∙ sets.contains-empty nat_cmp q ∙ sym (rw (le-ltb q 0 (omega arith)) refl)

-- between two tried points, and above both, nothing changes
apart : (tried wins : ℕ → Bool) (n p q : ℕ) → n ≤ p → ((r : ℕ) → n ≤ r → r < p → tried r ≡ false) → q ≢ p
    → (ltb q n && (tried q && wins q)) ≡ (ltb q (p + 1) && (tried q && wins q))
apart tried wins n p q later between ne = grind (arith, cases_lt, lt-ltb, fails, le-ltb)

-- the play at the next tried point succeeds
pub one_more : (tried wins : ℕ → Bool) (n p : ℕ) (found next : sets.FinSet nat_cmp) → HasBelow tried wins n found
    → n ≤ p → ((r : ℕ) → n ≤ r → r < p → tried r ≡ false) → tried p ≡ true → wins p ≡ true
    → next ≡ sets.insert found p → HasBelow tried wins (p + 1) next
one_more tried wins n p found next has later between t w e q =
    grind (
      arith,
      contains-insert_nat found p q,
      cases_eq q p,
      eq-eqb p p refl,
      lt-ltb p (p + 1),
      ne_eqb q p,
      apart tried wins n p q later between,
    )

-- it does not
pub no_more : (tried wins : ℕ → Bool) (n p : ℕ) (found : sets.FinSet nat_cmp) → HasBelow tried wins n found
    → n ≤ p → ((r : ℕ) → n ≤ r → r < p → tried r ≡ false) → wins p ≡ false → HasBelow tried wins (p + 1) found
no_more tried wins n p found has later between w q =
    grind (
      arith,
      cases_eq q p,
      le-ltb p n later,
      fails_of_three (ltb p (p + 1)) (tried p),
      apart tried wins n p q later between,
    )

-- no tried point is left, so all are found
pub all_found : (tried wins : ℕ → Bool) (n : ℕ) (found : sets.FinSet nat_cmp) → HasBelow tried wins n found
    → ((r : ℕ) → n ≤ r → tried r ≡ false) → (q : ℕ) → sets.contains found q ≡ (tried q && wins q)
all_found tried wins n found has none q = grind (arith, cases_lt, lt-ltb, le-ltb)
