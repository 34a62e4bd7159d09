-- The last liberties of the enemy strings next to a string, gathered string by string.
use Rattle.std.proofs.Common.{◌≡◌, ℕ, ◌+◌, ◌*◌, ◌<◌, ◌≤◌, true, List, sym, ap, arith, inl, inr, ◌∙◌}
use Rattle.std.proofs.lemmas.Bool.{cases_eq, cases_lt, or_cases, or_left, or_right, eqb-true, eq-eqb, both_ways}
use Rattle.std.proofs.lemmas.Bool.{and_parts, and_from, lt-ltb}
use Rattle.std.specs.Ordering.{nat_cmp}
use Rattle.std.specs.Cmp.{nat_cmp_total}
use Rattle.std.specs.FinSet as sets
use Rattle.go_rules.specs.declared.Cell.{Cell}
use Rattle.go_rules.specs.Strings.{cell_at, is_in_string, string_at, is_liberty, liberties, liberty_points}
use Rattle.go_rules.specs.BesideStrings.{is_enemy, is_beside_string}
use Rattle.go_rules.proofs.Counts.{any_below_gives, any_below_from, count_below_same}
use Rattle.go_rules.proofs.Sets.{contains-set_below}
use Rattle.go_rules.proofs.Paths.{IsLiberty-from_test, is_liberty-from_fact, IsInString-from_test}
use Rattle.go_rules.proofs.Links.{liberty_moves}
use Rattle.go_rules.proofs.StringMembers.{is_in_string_on, string_back}
use Rattle.go_rules.proofs.Tests.{same_tests}
use Rattle.go_base.specs.Surroundings.{is_only_liberty, is_last_liberty_of_enemy, AddsLast, KnowsLast}
use Rattle.go_base.specs.Floods.{Searches}
use Rattle.go_base.specs.declared.flood.Searched.{Searched}
use Rattle.go_base.proofs.BoundedSearches.{Searches-count, one_seen}

-- the set of the liberties has the liberties
pub contains-liberty_points : (s : ℕ) (cells : List Cell) (r l : ℕ)
    → sets.contains (liberty_points s cells r) l ≡ is_liberty s cells r l
unfolding liberty_points
contains-liberty_points s cells r l =
    contains-set_below (s * s) (is_liberty s cells r) l
    ∙ same_tests _ _ (λ h. (and_parts _ _ h).1)
    (λ h. and_from _ _ (lt-ltb l (s * s) (IsLiberty-from_test s cells r l h).on_board) h)

-- the points of one string have the same liberties
same_liberty : (s : ℕ) (cells : List Cell) (p q l : ℕ) → p < s * s → is_in_string s cells p q ≡ true
    → is_liberty s cells p l ≡ is_liberty s cells q l
same_liberty s cells p q l on h = same_tests _ _
    (λ t. is_liberty-from_fact s cells q l (is_in_string_on s cells p q on h)
    (liberty_moves s cells q p l (is_in_string_on s cells p q on h)
    (IsInString-from_test s cells q p (string_back s cells p q on h)) (IsLiberty-from_test s cells p l t)))
    (λ t. is_liberty-from_fact s cells p l on
    (liberty_moves s cells p q l on (IsInString-from_test s cells p q h) (IsLiberty-from_test s cells q l t)))

-- and the same one liberty
same_only : (s : ℕ) (cells : List Cell) (p q l : ℕ) → p < s * s → is_in_string s cells p q ≡ true
    → is_only_liberty s cells p l ≡ is_only_liberty s cells q l
unfolding is_only_liberty liberties
same_only s cells p q l on h = grind (arith, count_below_same, same_liberty)

-- the one liberties of the enemy strings that the points below n belong to are there, and nothing else is
pub record Lasts (s : ℕ) (cells : List Cell) (p n : ℕ) (last : sets.FinSet nat_cmp) : Type 0 where
  pub only : (l : ℕ) → sets.contains last l ≡ true → is_last_liberty_of_enemy s cells p l ≡ true
  pub all : (q : ℕ) → q < n → is_beside_string s cells p q ≡ true → is_enemy (cell_at cells p) (cell_at cells q) ≡ true
      → (l : ℕ) → is_only_liberty s cells q l ≡ true → sets.contains last l ≡ true

-- the set has the liberties of the string
its : (s : ℕ) (cells : List Cell) (q : ℕ) (found : sets.FinSet nat_cmp) → found ≡ liberty_points s cells q → (l : ℕ)
    → sets.contains found l ≡ is_liberty s cells q l
its s cells q found e l = ap (λ t. sets.contains t l) e ∙ contains-liberty_points s cells q l

module _ (s : ℕ) (cells : List Cell) (q n : ℕ) (found : Searched) (old : sets.FinSet nat_cmp)
    (h : Searches s cells q 1 found) (count : n ≡ sets.len found.liberties) where
  -- the liberties of a string with just one were added
  pub AddsLast-one : (new : sets.FinSet nat_cmp) → n ≡ 1 → new ≡ sets.union old found.liberties
      → AddsLast s cells q old new
  unfolding is_only_liberty
  AddsLast-one new one is =
      let at = λ (l : ℕ). ap (λ t. sets.contains t l) is ∙ sets.contains-union nat_cmp_total old found.liberties l in
      let whole = its s cells q found.liberties (h.liberties (omega (arith, count, one))) in
      let how_many = Searches-count s cells q 1 n found h count (omega arith) in
      record {
        kept = λ l i. at l ∙ or_left _ _ i;
        only = λ l i. elim (or_cases _ _ (sym (at l) ∙ i)) [
          | inl before ↦ inl before
          | inr now ↦ inr (and_from _ _ (eq-eqb (liberties s cells q) 1 (sym how_many ∙ one)) (sym (whole l) ∙ now))
        ];
        all = λ l i. at l ∙ or_right _ _ (whole l ∙ (and_parts _ _ i).1);
      }

  -- a string with none or more adds nothing
  pub AddsLast-none : (n ≡ 1 → ⊥) → AddsLast s cells q old old
  unfolding is_only_liberty
  AddsLast-none other = grind (arith, one_seen, eqb-true, and_parts)

-- after a string's one liberty came, what was found of the string is among those seen
pub KnowsLast-join : (s : ℕ) (cells : List Cell) (q : ℕ) (seen joined found last new : sets.FinSet nat_cmp) → q < s * s
    → ((x : ℕ) → sets.contains found x ≡ true → sets.contains (string_at s cells q) x ≡ true)
    → joined ≡ sets.union seen found → KnowsLast s cells seen last → AddsLast s cells q last new
    → KnowsLast s cells joined new
unfolding string_at
KnowsLast-join s cells q seen joined found last new on part is knows adds x h l i =
    elim (or_cases _ _ (sym (ap (λ t. sets.contains t x) is ∙ sets.contains-union nat_cmp_total seen found x) ∙ h)) [
      | inl before ↦ adds.kept l (knows x before l i)
      | inr now ↦ grind (arith, and_parts, contains-set_below, same_only)
    ]

-- nothing is known at first
pub KnowsLast-none : (s : ℕ) (cells : List Cell) (seen last : sets.FinSet nat_cmp) → seen ≡ sets.empty
    → KnowsLast s cells seen last
KnowsLast-none s cells seen last e q h =
    absurd (both_ways (sets.contains seen q) (ap (λ t. sets.contains t q) e ∙ sets.contains-empty nat_cmp q) h)

-- no point is below 0
pub Lasts-none : (s : ℕ) (cells : List Cell) (p : ℕ) (last : sets.FinSet nat_cmp) → last ≡ sets.empty
    → Lasts s cells p 0 last
Lasts-none s cells p last e = record {
  only = λ l h. absurd (both_ways (sets.contains last l)
      (ap (λ t. sets.contains t l) e ∙ sets.contains-empty nat_cmp l) h);
  all = λ q b. absurd (omega arith);
}

-- no enemy next to the string stands between the next point and this one
pub Lasts-jump : (s : ℕ) (cells : List Cell) (p n m : ℕ) (last : sets.FinSet nat_cmp) → Lasts s cells p n last
    → ((q : ℕ) → n ≤ q → q < m → is_beside_string s cells p q ≡ true
    → is_enemy (cell_at cells p) (cell_at cells q) ≡ true → ⊥) → Lasts s cells p m last
Lasts-jump s cells p n m last b none = grind (arith, cases_lt)

-- the next point is an enemy next to the string, and its one liberty came
pub Lasts-add : (s : ℕ) (cells : List Cell) (p n : ℕ) (last new : sets.FinSet nat_cmp) → Lasts s cells p n last
    → n < s * s
    → is_beside_string s cells p n ≡ true → is_enemy (cell_at cells p) (cell_at cells n) ≡ true
    → AddsLast s cells n last new → Lasts s cells p (n + 1) new
unfolding is_last_liberty_of_enemy
Lasts-add s cells p n last new b on beside enemy add = record {
  only = λ l h. elim (add.only l h) [
    | inl old ↦ b.only l old
    | inr now ↦ any_below_from (s * s) _ n on (and_from _ _ (and_from _ _ enemy beside) now)
  ];
  all = grind (arith, cases_eq);
}

-- where every point was passed, the set has exactly the last liberties of the enemy strings
pub Lasts-all : (s : ℕ) (cells : List Cell) (p n : ℕ) (last : sets.FinSet nat_cmp) → Lasts s cells p n last → s * s ≤ n
    → (l : ℕ) → sets.contains last l ≡ is_last_liberty_of_enemy s cells p l
unfolding is_last_liberty_of_enemy
Lasts-all s cells p n last b whole l = grind (arith, same_tests, any_below_gives, and_parts)
