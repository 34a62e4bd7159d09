-- The least points of enemy strings: those of the strings that a search meets make up the boundary.
use Rattle.std.proofs.Common.{◌≡◌, ◌↔◌, ℕ, ◌+◌, ◌*◌, ◌<◌, ◌≤◌, true, false, List, sym, ap}
use Rattle.std.proofs.Common.{arith, inl, inr, ◌∙◌}
use Rattle.std.proofs.lemmas.Bool.{cases_Bool, cases_eq, cases_lt, or_cases, or_left, or_right, eqb-true, eq-eqb}
use Rattle.std.proofs.lemmas.Bool.{both_ways, and_parts, and_from, lt-ltb, ltb-true, not-true, not_from_false}
use Rattle.std.specs.Ordering.{nat_cmp}
use Rattle.std.specs.Cmp.{nat_cmp_total}
use Rattle.std.specs.FinSet as sets
use Rattle.go_rules.specs.declared.Cell.{Cell}
use Rattle.go_rules.specs.Strings.{cell_at, is_stone, is_in_string, string_at, start}
use Rattle.trial_board.specs.Boundary.{is_boundary, IsBoundary, boundary_points, LeastOf, AddsLeast, KnowsLeast}
use Rattle.go_rules.specs.BesideStrings.{is_enemy, is_beside_string}
use Rattle.go_rules.proofs.StringMembers.{is_in_string_on, string_back}
use Rattle.go_rules.proofs.Tests.{same_tests}
use Rattle.go_rules.proofs.Counts.{any_below_gives, any_below_from, any_below_none, any_below_false}
use Rattle.go_rules.proofs.Sets.{contains-set_below, contains-insert_nat, same_nat_set}
use Rattle.go_rules.proofs.Paths.{path_on_board, IsInString-from_test, is_is_in_string-from_fact}
use Rattle.go_rules.proofs.Links.{path_same, path_on, path_back}

-- the points of one string have the same string
pub string_on : (s : ℕ) (cells : List Cell) (p q k : ℕ) → p < s * s → is_in_string s cells p q ≡ true
    → is_in_string s cells q k ≡ true → is_in_string s cells p k ≡ true
string_on s cells p q k on h i =
    let a = IsInString-from_test s cells p q h in
    is_is_in_string-from_fact s cells p k on (record {
      stone = a.stone;
      path = path_on s cells p q a.path (IsInString-from_test s cells q k i).path;
    })

-- the stones of a string are of one colour
pub string_cell : (s : ℕ) (cells : List Cell) (p q : ℕ) → is_in_string s cells p q ≡ true
    → cell_at cells q ≡ cell_at cells p
string_cell s cells p q h = path_same s cells p (IsInString-from_test s cells p q h).path

-- the least points of the enemy strings that the points below n belong to are there, and nothing else is
pub record Bounds (s : ℕ) (cells : List Cell) (p n : ℕ) (least : sets.FinSet nat_cmp) : Type 0 where
  pub only : (r : ℕ) → sets.contains least r ≡ true → (r < s * s) × (is_boundary s cells p r ≡ true)
  pub all : (q : ℕ) → q < n → is_beside_string s cells p q ≡ true → is_enemy (cell_at cells p) (cell_at cells q) ≡ true
      → (r : ℕ) → LeastOf s cells q r → sets.contains least r ≡ true

-- no point is below 0
pub Bounds-none : (s : ℕ) (cells : List Cell) (p : ℕ) (least : sets.FinSet nat_cmp) → least ≡ sets.empty
    → Bounds s cells p 0 least
Bounds-none s cells p least e = record {
  only = λ r h. absurd (both_ways (sets.contains least r)
      (ap (λ t. sets.contains t r) e ∙ sets.contains-empty nat_cmp r) h);
  all = λ q l. absurd (omega arith);
}

-- no enemy next to the string stands between the next point and this one
pub Bounds-jump : (s : ℕ) (cells : List Cell) (p n m : ℕ) (least : sets.FinSet nat_cmp) → Bounds s cells p n least
    → ((q : ℕ) → n ≤ q → q < m → is_beside_string s cells p q ≡ true
    → is_enemy (cell_at cells p) (cell_at cells q) ≡ true → ⊥) → Bounds s cells p m least
Bounds-jump s cells p n m least b none = grind (arith, cases_lt)

-- the least point of an enemy string next to the string is of the boundary
boundary_of : (s : ℕ) (cells : List Cell) (p q r : ℕ) → q < s * s → is_beside_string s cells p q ≡ true
    → is_enemy (cell_at cells p) (cell_at cells q) ≡ true → LeastOf s cells q r
    → (r < s * s) × (is_boundary s cells p r ≡ true)
unfolding is_boundary
boundary_of s cells p q r on beside enemy h =
    let r_on = is_in_string_on s cells q r on h.inside in
    let back = string_back s cells q r on h.inside in (
      r_on,
      and_from _ _ (and_from _ _ (ap (is_enemy (cell_at cells p)) (string_cell s cells q r h.inside) ∙ enemy)
          (not_from_false _ (any_below_false r (is_in_string s cells r)
          (λ k l. elim (cases_Bool (is_in_string s cells r k)) [
            | inl t ↦ absurd (both_ways (is_in_string s cells q k) (h.least k l)
                (string_on s cells q r k on h.inside t))
            | inr f ↦ f
          ]))))
          (any_below_from (s * s) _ q on (and_from _ _ back beside)),
    )

-- the next point is an enemy next to the string, and its least point came
pub Bounds-add : (s : ℕ) (cells : List Cell) (p n : ℕ) (least new : sets.FinSet nat_cmp) → Bounds s cells p n least
    → n < s * s
    → is_beside_string s cells p n ≡ true → is_enemy (cell_at cells p) (cell_at cells n) ≡ true
    → AddsLeast s cells n least new → Bounds s cells p (n + 1) new
Bounds-add s cells p n least new b on beside enemy add = grind (arith, boundary_of, cases_eq)

-- each least point is found from a point of its string
least_found : (s : ℕ) (cells : List Cell) (p n r : ℕ) (least : sets.FinSet nat_cmp) → Bounds s cells p n least
    → s * s ≤ n → r < s * s → is_boundary s cells p r ≡ true → sets.contains least r ≡ true
unfolding is_boundary
least_found s cells p n r least b whole on h =
    grind (
      arith,
      any_below_gives (s * s),
      string_cell s cells r,
      string_back s cells r,
      any_below_none r (is_in_string s cells r),
      string_on s cells r,
      and_parts,
      cases_Bool,
      both_ways,
      not-true,
    )

-- where every point was passed, the set is the boundary
pub Bounds-all : (s : ℕ) (cells : List Cell) (p n : ℕ) (least : sets.FinSet nat_cmp) → Bounds s cells p n least
    → s * s ≤ n → least ≡ boundary_points s cells p
unfolding boundary_points
Bounds-all s cells p n least b whole =
    grind (arith, same_nat_set, same_tests, and_from, lt-ltb, and_parts, least_found, ltb-true, contains-set_below)

-- the string's set tells its least point
pub least_in : (s : ℕ) (cells : List Cell) (q r : ℕ) (found : sets.FinSet nat_cmp) → q < s * s
    → found ≡ string_at s cells q → sets.contains found r ≡ true → ((k : ℕ) → k < r → sets.contains found k ≡ false)
    → LeastOf s cells q r
unfolding string_at
least_in s cells q r found on e h none =
    grind (arith, contains-set_below (s * s) (is_in_string s cells q), and_parts, lt-ltb, ltb-true r (s * s))

-- a string's least point is the first of its set
pub least_is : (s : ℕ) (cells : List Cell) (q r : ℕ) (found : sets.FinSet nat_cmp) → q < s * s
    → found ≡ string_at s cells q → LeastOf s cells q r
    → (sets.contains found r ≡ true) × ((k : ℕ) → k < r → sets.contains found k ≡ false)
unfolding string_at
least_is s cells q r found on e h = grind (arith, contains-set_below, is_in_string_on, and_from, lt-ltb)

-- a string's least point was added
pub AddsLeast-some : (s : ℕ) (cells : List Cell) (q r : ℕ) (found old new : sets.FinSet nat_cmp) → q < s * s
    → found ≡ string_at s cells q → sets.contains found r ≡ true
    → ((k : ℕ) → k < r → sets.contains found k ≡ false) → new ≡ sets.insert old r → AddsLeast s cells q old new
AddsLeast-some s cells q r found old new on e h none is =
    grind (
      arith,
      contains-insert_nat,
      or_right,
      or_cases,
      eqb-true,
      least_in,
      least_is,
      or_left,
      eq-eqb,
      cases_lt,
      both_ways,
    )

-- an empty string has no least point
pub AddsLeast-none : (s : ℕ) (cells : List Cell) (q : ℕ) (found old : sets.FinSet nat_cmp) → q < s * s
    → found ≡ string_at s cells q → ((k : ℕ) → 0 ≤ k → sets.contains found k ≡ false) → AddsLeast s cells q old old
AddsLeast-none s cells q found old on e none = record {
  kept = λ k i. i;
  only = λ k i. inl i;
  all = λ k l. absurd (both_ways (sets.contains found k) (none k (omega arith)) (least_is s cells q k found on e l).0);
}

-- the points of one string have the same least point
LeastOf-moves : (s : ℕ) (cells : List Cell) (q x r : ℕ) → q < s * s → is_in_string s cells q x ≡ true
    → LeastOf s cells x r → LeastOf s cells q r
LeastOf-moves s cells q x r on link h = grind (arith, string_on, cases_Bool, both_ways, is_in_string_on, string_back)

-- after a string's least point was added, the string is among those seen
pub KnowsLeast-join : (s : ℕ) (cells : List Cell) (q : ℕ) (seen joined found least new : sets.FinSet nat_cmp)
    → q < s * s → found ≡ string_at s cells q
    → joined ≡ sets.union seen found → KnowsLeast s cells seen least → AddsLeast s cells q least new
    → KnowsLeast s cells joined new
unfolding string_at
KnowsLeast-join s cells q seen joined found least new on e is knows adds x h r l =
    elim (or_cases _ _ (sym (ap (λ t. sets.contains t x) is ∙ sets.contains-union nat_cmp_total seen found x) ∙ h)) [
      | inl before ↦ adds.kept r (knows x before r l)
      | inr now ↦ grind (arith, and_parts, contains-set_below, LeastOf-moves)
    ]

-- nothing is known at first
pub KnowsLeast-none : (s : ℕ) (cells : List Cell) (seen least : sets.FinSet nat_cmp) → seen ≡ sets.empty
    → KnowsLeast s cells seen least
KnowsLeast-none s cells seen least e q h =
    absurd (both_ways (sets.contains seen q) (ap (λ t. sets.contains t q) e ∙ sets.contains-empty nat_cmp q) h)

-- the test of the boundary is the fact
pub is_boundary-is : (s : ℕ) (cells : List Cell) (p r : ℕ) → p < s * s → r < s * s
    → (is_boundary s cells p r ≡ true) ↔ IsBoundary s cells p r
unfolding is_boundary is_beside_string
is_boundary-is s cells p r on r_on = (
  λ t.
      let parts = and_parts _ _ t in
      let first = and_parts _ _ parts.0 in
      let found = any_below_gives (s * s) _ parts.1 in
      let both = and_parts _ _ found.2 in
      let it = any_below_gives (s * s) _ both.1 in
      let link = and_parts _ _ it.2 in
      record {
        enemy = first.0;
        least = λ k l h. both_ways (is_in_string s cells r k)
            (any_below_none r (is_in_string s cells r) k (not-true _ first.1) l)
            (is_is_in_string-from_fact s cells r k r_on h);
        beside = (
          found.0,
          IsInString-from_test s cells r found.0 both.0,
          (it.0, IsInString-from_test s cells p it.0 link.0, link.1),
        );
      },
  λ h.
      let q = h.beside.0 in
      let x = h.beside.2.0 in
      and_from _ _ (and_from _ _ h.enemy (not_from_false _
      (any_below_false r (is_in_string s cells r) (λ k l. elim (cases_Bool (is_in_string s cells r k)) [
        | inl t ↦ absurd (h.least k l (IsInString-from_test s cells r k t))
        | inr f ↦ f
      ]))))
      (any_below_from (s * s) _ q (path_on_board s cells r r_on h.beside.1.path)
      (and_from _ _ (is_is_in_string-from_fact s cells r q r_on h.beside.1)
      (any_below_from (s * s) _ x (path_on_board s cells p on h.beside.2.1.path)
      (and_from _ _ (is_is_in_string-from_fact s cells p x on h.beside.2.1) h.beside.2.2)))),
)
