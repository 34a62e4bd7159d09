-- What one string adds, and that its stones all add the same.
use Rattle.std.proofs.Common.{◌≡◌, ℕ, ◌+◌, ◌*◌, ◌<◌, ◌≤◌, ◌&&◌, ◌||◌, Bool, true, false, not, leb, ltb, List, sym, ap}
use Rattle.std.proofs.Common.{arith, inl, inr, ◌∙◌}
use Rattle.std.proofs.lemmas.Bool.{cases_Bool, or_cases, or_left, both_ways, and_parts, and_from}
use Rattle.std.proofs.lemmas.Bool.{le-leb, lt-ltb, not_from_false}
use Rattle.std.specs.Ordering.{nat_cmp}
use Rattle.std.specs.Cmp.{nat_cmp_total}
use Rattle.std.specs.FinSet as sets
use Rattle.go_rules.specs.declared.Cell.{Cell}
use Rattle.go_rules.specs.Strings.{cell_at, is_in_string, string_at, is_liberty, liberties, liberty_points}
use Rattle.go_rules.specs.BesideStrings.{is_enemy, is_beside_string}
use Rattle.go_rules.proofs.Counts.{any_below_gives, any_below_from, count_below_same}
use Rattle.go_rules.proofs.Sets.{contains-set_below, len-set_below}
use Rattle.go_rules.proofs.Paths.{IsLiberty-from_test, is_liberty-from_fact, IsInString-from_test}
use Rattle.go_rules.proofs.Paths.{is_is_in_string-from_fact}
use Rattle.go_rules.proofs.Links.{liberty_moves}
use Rattle.go_rules.proofs.InWords.{string_onward, string_back_in_words, string_of_one_colour}
use Rattle.go_rules.proofs.StringMembers.{is_in_string_on}
use Rattle.go_rules.proofs.Tests.{same_tests}
use Rattle.go_base.specs.Floods.{enemy_points}
use Rattle.go_base.proofs.LastLiberties.{contains-liberty_points}
use Rattle.wider_rules.specs.Strings.{has_between, is_few_liberty, is_few_enemy}
use Rattle.wider_rules.proofs.GatherLemmas.{Passes, Gathers, Gathers-next}

-- the set of the liberties has the liberties
pub has_liberty : (s : ℕ) (cells : List Cell) (q l : ℕ) (libs : sets.FinSet nat_cmp) → libs ≡ liberty_points s cells q
    → sets.contains libs l ≡ is_liberty s cells q l
has_liberty s cells q l libs e = ap (λ t. sets.contains t l) e ∙ contains-liberty_points s cells q l

-- and as many members as there are liberties
pub how_many : (s : ℕ) (cells : List Cell) (q : ℕ) (libs : sets.FinSet nat_cmp) → libs ≡ liberty_points s cells q
    → sets.len libs ≡ liberties s cells q
unfolding liberty_points liberties
how_many s cells q libs e = ap sets.len e ∙ len-set_below (s * s) (is_liberty s cells q)

-- the set of the enemies next to a string has those on the board
pub has_enemy : (s : ℕ) (cells : List Cell) (q r : ℕ) (foes : sets.FinSet nat_cmp) → foes ≡ enemy_points s cells q
    → sets.contains foes r
    ≡ (ltb r (s * s) && (is_beside_string s cells q r && is_enemy (cell_at cells q) (cell_at cells r)))
has_enemy s cells q r foes e = grind (arith, contains-set_below)

-- the set of the stones of a string has them
pub has_stone : (s : ℕ) (cells : List Cell) (q r : ℕ) (stones : sets.FinSet nat_cmp) → q < s * s
    → stones ≡ string_at s cells q
    → sets.contains stones r ≡ is_in_string s cells q r
unfolding string_at
has_stone s cells q r stones on e =
    grind (arith, contains-set_below, same_tests, and_parts, and_from, lt-ltb, is_in_string_on)

-- What is joined to what was found before.
module _ (old added new : sets.FinSet nat_cmp) (p : ℕ) where
  -- all of the joined set came
  pub joined : new ≡ sets.union old added → sets.contains new p ≡ (sets.contains old p || sets.contains added p)
  joined e = ap (λ t. sets.contains t p) e ∙ sets.contains-union nat_cmp_total old added p

-- nothing more comes by a test that fails
pub adds_nothing : (a b : Bool) → b ≡ false → a ≡ (a || b)
adds_nothing a b e = grind (arith, same_tests, or_left, or_cases, both_ways)

-- each string has none at least
pub from_none : (most s : ℕ) (cells : List Cell) (q : ℕ) → has_between 0 most s cells q ≡ leb (liberties s cells q) most
from_none most s cells q = ap (λ b. b && leb (liberties s cells q) most) (le-leb 0 (liberties s cells q) (omega arith))

-- What a search of the string of q adds, where n of its liberties were counted.
module _ (least most s : ℕ) (cells : List Cell) (q n p : ℕ) (libs old new : sets.FinSet nat_cmp)
    (whole : libs ≡ liberty_points s cells q) (count : n ≡ sets.len libs) where
  -- the string has so many liberties exactly if so many were counted
  few_by_count : has_between least most s cells q ≡ (leb least n && leb n most)
  few_by_count = ap (λ k. leb least k && leb k most) (sym (count ∙ how_many s cells q libs whole))

  -- its liberties came where they are so many
  pub few_liberties : (leb least n && leb n most) ≡ true → new ≡ sets.union old libs
      → sets.contains new p ≡ (sets.contains old p || is_few_liberty least most s cells q p)
  unfolding is_few_liberty
  few_liberties few e =
      joined old libs new p e
      ∙ ap (λ b. sets.contains old p || b)
      (has_liberty s cells q p libs whole
      ∙ same_tests _ _ (λ h. and_from _ _ (few_by_count ∙ few) h) (λ h. (and_parts _ _ h).1))

  -- nothing came where they are not
  pub many_liberties : (leb least n && leb n most) ≡ false
      → sets.contains old p ≡ (sets.contains old p || is_few_liberty least most s cells q p)
  unfolding is_few_liberty
  many_liberties many = adds_nothing _ _ (elim (cases_Bool (is_few_liberty least most s cells q p)) [
    | inl h ↦ absurd (both_ways (leb least n && leb n most) many (sym few_by_count ∙ (and_parts _ _ h).0))
    | inr fails ↦ fails
  ])

  -- the enemies next to it came where its liberties are so many
  pub few_enemies : (foes : sets.FinSet nat_cmp) → (leb least n && leb n most) ≡ true → foes ≡ enemy_points s cells q → new ≡ sets.union old foes
      → sets.contains new p ≡ (sets.contains old p || is_few_enemy least most s cells q p)
  unfolding is_few_enemy
  few_enemies foes few its e =
      joined old foes new p e
      ∙ ap (λ b. sets.contains old p || b)
      (has_enemy s cells q p foes its
      ∙ same_tests _ _ (λ h. and_from _ _ (few_by_count ∙ few) h) (λ h. (and_parts _ _ h).1))

  -- nothing came where they are not
  pub many_enemies : (leb least n && leb n most) ≡ false
      → sets.contains old p ≡ (sets.contains old p || is_few_enemy least most s cells q p)
  unfolding is_few_enemy
  many_enemies many = adds_nothing _ _ (elim (cases_Bool (is_few_enemy least most s cells q p)) [
    | inl h ↦ absurd (both_ways (leb least n && leb n most) many (sym few_by_count ∙ (and_parts _ _ h).0))
    | inr fails ↦ fails
  ])

-- The stones of one string.
module _ (s : ℕ) (cells : List Cell) (p q : ℕ) (on : p < s * s) (same : is_in_string s cells p q ≡ true) where
  -- a stone is on the board
  on_q : q < s * s
  on_q = is_in_string_on s cells p q on same

  -- they have the same liberties
  same_liberty : (l : ℕ) → is_liberty s cells p l ≡ is_liberty s cells q l
  same_liberty l = same_tests _ _
      (λ t. is_liberty-from_fact s cells q l on_q
      (liberty_moves s cells q p l on_q
      (string_back_in_words s cells p q on (IsInString-from_test s cells p q same))
      (IsLiberty-from_test s cells p l t)))
      (λ t. is_liberty-from_fact s cells p l on
      (liberty_moves s cells p q l on (IsInString-from_test s cells p q same) (IsLiberty-from_test s cells q l t)))

  -- and so many
  same_liberties : liberties s cells p ≡ liberties s cells q
  unfolding liberties
  same_liberties = count_below_same (s * s) (is_liberty s cells p) (is_liberty s cells q) (λ l _. same_liberty l)

  -- what is next to the string of the one is next to that of the other
  beside_onward : (r : ℕ) → is_beside_string s cells q r ≡ true → is_beside_string s cells p r ≡ true
  unfolding is_beside_string
  beside_onward r h =
      let x = any_below_gives (s * s) _ h in
      let both = and_parts _ _ x.2 in
      any_below_from (s * s) _ x.0 x.1
      (and_from _ _ (is_is_in_string-from_fact s cells p x.0 on
      (string_onward s cells p q x.0 (IsInString-from_test s cells p q same)
      (IsInString-from_test s cells q x.0 both.0)))
      both.1)

  -- a liberty of the string of q, which has few, is one of that of p
  pub liberty_onward : (least most l : ℕ) → is_few_liberty least most s cells q l ≡ true
      → is_few_liberty least most s cells p l ≡ true
  unfolding is_few_liberty
  liberty_onward least most l h =
      let both = and_parts _ _ h in
      and_from _ _ (ap (λ k. leb least k && leb k most) same_liberties ∙ both.0) (same_liberty l ∙ both.1)

  -- and so is an enemy next to it
  pub enemy_onward : (least most r : ℕ) → is_few_enemy least most s cells q r ≡ true
      → is_few_enemy least most s cells p r ≡ true
  unfolding is_few_enemy
  enemy_onward least most r h =
      let both = and_parts _ _ h in
      let place = and_parts _ _ both.1 in
      let enemy = and_parts _ _ place.1 in
      let colour = string_of_one_colour s cells p q (IsInString-from_test s cells p q same) in
      and_from _ _ (ap (λ k. leb least k && leb k most) same_liberties ∙ both.0)
      (and_from _ _ place.0
      (and_from _ _ (beside_onward r enemy.0) (ap (λ k. is_enemy k (cell_at cells r)) (sym colour) ∙ enemy.1)))

-- The stones of the string of p are taken off.
module _ (s : ℕ) (cells : List Cell) (p : ℕ) (left stones rest : sets.FinSet nat_cmp) (on : p < s * s)
    (its : stones ≡ string_at s cells p) (taken : rest ≡ sets.difference left stones) where
  -- what is left now
  still : (q : ℕ) → sets.contains rest q ≡ (sets.contains left q && not (is_in_string s cells p q))
  still q = ap (λ t. sets.contains t q) taken ∙ sets.contains-difference nat_cmp_total left stones q
      ∙ ap (λ b. sets.contains left q && not b) (has_stone s cells p q stones on its)

  -- those that are gone have no more at a test that the stones of a string share
  pub string_passes : (test : ℕ → ℕ → Bool)
      → ((q : ℕ) → is_in_string s cells p q ≡ true → (x : ℕ) → test q x ≡ true → test p x ≡ true)
      → Passes test p left rest
  string_passes test shared = record {
    fewer = λ q h. (and_parts _ _ (sym (still q) ∙ h)).0;
    gone = λ q h. elim (cases_Bool (is_in_string s cells p q)) [
      | inl inside ↦ inr (shared q inside)
      | inr outside ↦ inl (still q ∙ and_from _ _ h (not_from_false _ outside))
    ];
  }

  -- what the test has at that string came
  Gathers-string : (points : sets.FinSet nat_cmp) (n : ℕ) → n ≤ p → sets.contains left p ≡ true
      → ((k : ℕ) → n ≤ k → k < p → sets.contains left k ≡ false) → (test : ℕ → ℕ → Bool)
      → ((q : ℕ) → is_in_string s cells p q ≡ true → (x : ℕ) → test q x ≡ true → test p x ≡ true)
      → (old new : sets.FinSet nat_cmp) → Gathers test points left n old
      → ((x : ℕ) → sets.contains new x ≡ (sets.contains old x || test p x)) → Gathers test points rest (p + 1) new
  Gathers-string points n up here none test shared old new i =
      Gathers-next test points n p left rest old new up i here none (string_passes test shared)

-- the stones of the string of q were told, and what stands around it came if it has few liberties
pub record AddsAround (least most s : ℕ) (cells : List Cell) (q : ℕ)
    (stones libs more_libs foes more_foes : sets.FinSet nat_cmp) : Type 0 where
  pub its : stones ≡ string_at s cells q
  pub liberties : (p : ℕ) → sets.contains more_libs p ≡ (sets.contains libs p || is_few_liberty least most s cells q p)
  pub enemies : (r : ℕ) → sets.contains more_foes r ≡ (sets.contains foes r || is_few_enemy least most s cells q r)

-- what stands around strings of few liberties came, but for those of the points that are left from n on
pub record GathersAround (least most s : ℕ) (cells : List Cell) (points left : sets.FinSet nat_cmp) (n : ℕ)
    (libs foes : sets.FinSet nat_cmp) : Type 0 where
  pub liberties : Gathers (is_few_liberty least most s cells) points left n libs
  pub enemies : Gathers (is_few_enemy least most s cells) points left n foes

-- what stands around the next string came, and its stones are taken off
pub GathersAround-next : {least most s : ℕ} {cells : List Cell} {points left rest : sets.FinSet nat_cmp} {n q : ℕ}
    {stones libs more_libs foes more_foes : sets.FinSet nat_cmp} → q < s * s
    → GathersAround least most s cells points left n libs foes → n ≤ q → sets.contains left q ≡ true
    → ((k : ℕ) → n ≤ k → k < q → sets.contains left k ≡ false) → rest ≡ sets.difference left stones
    → AddsAround least most s cells q stones libs more_libs foes more_foes
    → GathersAround least most s cells points rest (q + 1) more_libs more_foes
GathersAround-next {least} {most} {s} {cells} {points} {left} {rest} {n} {q} {stones} {libs} {more_libs} {foes}
    {more_foes} on i up here none taken one =
    let next = Gathers-string s cells q left stones rest on one.its taken points n up here none in
    record {
      liberties = next (is_few_liberty least most s cells) (λ x same. liberty_onward s cells q x on same least most) libs more_libs
          i.liberties one.liberties;
      enemies = next (is_few_enemy least most s cells) (λ x same. enemy_onward s cells q x on same least most) foes more_foes
          i.enemies one.enemies;
    }
