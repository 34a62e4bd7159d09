-- What is reached by at most s * s steps is what a path leads to.
use Rattle.std.proofs.Common.{◌≡◌, ℕ, zero, suc, ◌*◌, ◌<◌, ◌≤◌, ◌||◌, ◌&&◌, Bool, true, false, not, eqb, ltb, List}
use Rattle.std.proofs.Common.{refl, sym, subst, arith, inl, inr, ◌⊎◌, ◌∙◌}
use Rattle.std.proofs.lemmas.Bool.{or_left, or_right, or_cases, and_parts, and_from, cases_Bool, cases_eq, both_ways}
use Rattle.std.proofs.lemmas.Bool.{eqb-true, eq-eqb, ltb-true, lt-ltb, not-true, not_from_false}
use Rattle.go_rules.specs.declared.Cell.{Cell}
use Rattle.go_rules.specs.declared.Cell.TheVariants.{Empty, Black, White}
use Rattle.go_rules.specs.Below.{any_below, count_below}
use Rattle.go_rules.specs.Board.{are_neighbours}
use Rattle.go_rules.specs.Strings.{same_cell, cell_at, Path, start, step, reached, is_in_string, IsInString, is_liberty}
use Rattle.go_rules.specs.Strings.{IsLiberty}
use Rattle.go_rules.proofs.Counts.{any_below_gives, any_below_from, any_below_none, count_below_at_most}
use Rattle.go_rules.proofs.Counts.{count_below_less}

-- cells that hold the same are equal
pub same_cell-true : (a b : Cell) → same_cell a b ≡ true → a ≡ b
same_cell-true Empty Empty h = refl
same_cell-true Black Black h = refl
same_cell-true White White h = refl
same_cell-true Empty Black h = absurd (both_ways false refl h)
same_cell-true Empty White h = absurd (both_ways false refl h)
same_cell-true Black Empty h = absurd (both_ways false refl h)
same_cell-true Black White h = absurd (both_ways false refl h)
same_cell-true White Empty h = absurd (both_ways false refl h)
same_cell-true White Black h = absurd (both_ways false refl h)

-- a cell holds what it holds
pub same_cell-itself : (a : Cell) → same_cell a a ≡ true
same_cell-itself Empty = refl
same_cell-itself Black = refl
same_cell-itself White = refl

-- equal cells hold the same
pub same_cell-from : (a b : Cell) → a ≡ b → same_cell a b ≡ true
same_cell-from a b e = subst (λ x. same_cell a x ≡ true) e (same_cell-itself a)

-- the test of one more step
abbrev grows : ℕ → List Cell → ℕ → (ℕ → Bool) → ℕ → Bool
grows s cells p before q =
    before q || (ltb q (s * s) && same_cell (cell_at cells q) (cell_at cells p)
    && any_below (s * s) (λ r. before r && are_neighbours s r q))

-- one more step reaches what is next to what was reached
reached-suc : (s : ℕ) (cells : List Cell) (p n q : ℕ)
    → reached s cells p (suc n) q ≡ grows s cells p (reached s cells p n) q
unfolding reached
reached-suc s cells p n q = refl

-- no step reaches the point itself alone
reached-zero : (s : ℕ) (cells : List Cell) (p q : ℕ) → reached s cells p zero q ≡ eqb q p
unfolding reached
reached-zero s cells p q = refl

-- a path leads to what is reached
pub path_from_reached : (s : ℕ) (cells : List Cell) (p n q : ℕ) → reached s cells p n q ≡ true → Path s cells p q
path_from_reached s cells p zero q h =
    let e : q ≡ p = eqb-true q p (sym (reached-zero s cells p q) ∙ h) in
    subst (λ x. Path s cells p x) (sym e) start
path_from_reached s cells p (suc n) q h =
    elim (or_cases (reached s cells p n q) _ (sym (reached-suc s cells p n q) ∙ h)) [
      | inl before ↦ path_from_reached s cells p n q before
      | inr now ↦
          let parts = and_parts _ _ now in
          let first = and_parts _ _ parts.0 in
          let found = any_below_gives (s * s) _ parts.1 in
          let both = and_parts _ _ found.2 in
          step (path_from_reached s cells p n found.0 both.0) (ltb-true q (s * s) first.0) both.1
          (same_cell-true _ _ first.1)
    ]

-- on the board
pub path_on_board : (s : ℕ) (cells : List Cell) (p : ℕ) → p < s * s → {q : ℕ} → Path s cells p q → q < s * s
path_on_board s cells p h start = h
path_on_board s cells p h (step path on near same) = on

-- what is reached by n steps is reached by one more
reached_more : (s : ℕ) (cells : List Cell) (p n q : ℕ) → reached s cells p n q ≡ true
    → reached s cells p (suc n) q ≡ true
reached_more s cells p n q h = reached-suc s cells p n q ∙ or_left _ _ h

-- the point itself is reached
reached_start : (s : ℕ) (cells : List Cell) (p n : ℕ) → reached s cells p n p ≡ true
reached_start s cells p zero = reached-zero s cells p p ∙ eq-eqb p p refl
reached_start s cells p (suc n) = reached_more s cells p n p (reached_start s cells p n)

-- what is reached by k steps is reached by more
reached_later : (s : ℕ) (cells : List Cell) (p q k n : ℕ) → k ≤ n → reached s cells p k q ≡ true
    → reached s cells p n q ≡ true
reached_later s cells p q k zero le h = let e : k ≡ 0 = omega arith in subst (λ x. reached s cells p x q ≡ true) e h
reached_later s cells p q k (suc n) le h = grind (arith, cases_eq, reached_more, reached_later s cells p q k n)

-- one more step reaches nothing new
abbrev IsStable : ℕ → List Cell → ℕ → ℕ → Type 0
IsStable s cells p k = (q : ℕ) → q < s * s → reached s cells p (suc k) q ≡ true → reached s cells p k q ≡ true

-- if one more step reaches nothing new, what a path leads to is reached
reached_from_path : (s : ℕ) (cells : List Cell) (p k : ℕ) → p < s * s → IsStable s cells p k → {q : ℕ}
    → Path s cells p q → reached s cells p k q ≡ true
reached_from_path s cells p k h stable start = reached_start s cells p k
reached_from_path s cells p k h stable (step {q} {r} path on near same) =
    stable r on (reached-suc s cells p k r ∙ or_right _ _
    (and_from _ _ (and_from _ _ (lt-ltb r (s * s) on) (same_cell-from _ _ same))
    (any_below_from (s * s) _ q (path_on_board s cells p h path)
    (and_from _ _ (reached_from_path s cells p k h stable path) near))))

-- the points that one more step reaches and n steps do not
abbrev new_at : ℕ → List Cell → ℕ → ℕ → ℕ → Bool
new_at s cells p n q = reached s cells p (suc n) q && not (reached s cells p n q)

-- if there is none of these, one more step reaches nothing new
stable_at : (s : ℕ) (cells : List Cell) (p n : ℕ) → any_below (s * s) (new_at s cells p n) ≡ false
    → IsStable s cells p n
stable_at s cells p n none q l now = elim (cases_Bool (reached s cells p n q)) [
  | inl t ↦ t
  | inr g ↦ absurd (both_ways _ (any_below_none (s * s) _ q none l) (and_from _ _ now (not_from_false _ g)))
]

-- if there is one, more are reached
more_at : (s : ℕ) (cells : List Cell) (p n : ℕ) → any_below (s * s) (new_at s cells p n) ≡ true
    → count_below (s * s) (reached s cells p n) < count_below (s * s) (reached s cells p (suc n))
more_at s cells p n some =
    grind (
      arith,
      any_below_gives (s * s),
      count_below_less (s * s) (reached s cells p n) (reached s cells p (suc n)),
      reached_more s cells p n,
      and_parts,
      not-true,
    )

-- after n steps either nothing new came at some step, or more than n points are reached
stable_or_many : (s : ℕ) (cells : List Cell) (p : ℕ) → p < s * s → (n : ℕ)
    → ((k : ℕ) × (k ≤ n) × IsStable s cells p k) ⊎ (n < count_below (s * s) (reached s cells p n))
stable_or_many s cells p h zero =
    inr (omega (
      arith,
      count_below_less (s * s) (λ _. false) (reached s cells p zero)
          (λ k l f. absurd (both_ways false refl f)) p h refl (reached_start s cells p zero),
    ))
stable_or_many s cells p h (suc n) = elim (stable_or_many s cells p h n) [
  | inl found ↦ inl (found.0, omega (arith, found.1), found.2)
  | inr many ↦ elim (cases_Bool (any_below (s * s) (new_at s cells p n))) [
    | inl some ↦ inr (omega (arith, more_at s cells p n some, many))
    | inr none ↦ inl (n, omega arith, stable_at s cells p n none)
  ]
]

-- each point that a path leads to is reached
pub reached_all : (s : ℕ) (cells : List Cell) (p : ℕ) → p < s * s → {q : ℕ} → Path s cells p q
    → reached s cells p (s * s) q ≡ true
reached_all s cells p h {q} path =
    grind (
      arith,
      stable_or_many s cells p h (s * s),
      reached_later s cells p q,
      reached_from_path s cells p,
      count_below_at_most (s * s) (reached s cells p (s * s)),
    )

-- The test is the fact.
pub IsInString-from_test : (s : ℕ) (cells : List Cell) (p q : ℕ) → is_in_string s cells p q ≡ true
    → IsInString s cells p q
unfolding is_in_string
IsInString-from_test s cells p q h = grind (arith, and_parts, path_from_reached)

-- the fact of a string gives the test
pub is_is_in_string-from_fact : (s : ℕ) (cells : List Cell) (p q : ℕ) → p < s * s → IsInString s cells p q
    → is_in_string s cells p q ≡ true
unfolding is_in_string
is_is_in_string-from_fact s cells p q h fact = and_from _ _ fact.stone (reached_all s cells p h fact.path)

-- the test of a liberty gives the fact
pub IsLiberty-from_test : (s : ℕ) (cells : List Cell) (p l : ℕ) → is_liberty s cells p l ≡ true → IsLiberty s cells p l
unfolding is_liberty
IsLiberty-from_test s cells p l h =
    grind (arith, any_below_gives (s * s), IsInString-from_test s cells p, and_parts, ltb-true, same_cell-true)

-- the fact of a liberty gives the test
pub is_liberty-from_fact : (s : ℕ) (cells : List Cell) (p l : ℕ) → p < s * s → IsLiberty s cells p l
    → is_liberty s cells p l ≡ true
unfolding is_liberty
is_liberty-from_fact s cells p l h fact =
    and_from _ _ (and_from _ _ (lt-ltb _ _ fact.on_board) (same_cell-from _ _ fact.is_empty))
    (any_below_from (s * s) _ fact.beside.0 (path_on_board s cells p h fact.beside.1.path)
    (and_from _ _ (is_is_in_string-from_fact s cells p fact.beside.0 h fact.beside.1) fact.beside.2))
