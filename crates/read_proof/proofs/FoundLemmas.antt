-- What is found by going over the points of the board: points that pass a test with one of them.
use Rattle.std.proofs.Common.{◌≡◌, ◌∙◌, ℕ, ◌*◌, ◌<◌, ◌≤◌, ◌&&◌, ◌||◌, Bool, true, false, eqb, List}
use Rattle.std.proofs.Common.{Option, Some, None, refl, sym, ap, arith}
use Rattle.std.specs.Prelude.{IfSome, IfNone, MatchOption}
use Rattle.std.specs.Ordering.{nat_cmp}
use Rattle.std.specs.FinSet as sets
use Rattle.std.proofs.lemmas.Bool.{cases_Bool, and_parts, and_from, eqb-true, eq-eqb, ltb-true, lt-ltb}
use Rattle.go_rules.specs.declared.Cell.{Cell}
use Rattle.go_rules.specs.declared.Cell.TheVariants.{Empty}
use Rattle.go_rules.specs.Below.{any_below}
use Rattle.go_rules.specs.Board.{largest_points, are_neighbours}
use Rattle.go_rules.specs.Strings.{cell_at, same_cell, is_liberty, liberties, liberty_points}
use Rattle.go_rules.proofs.Counts.{any_below_gives, any_below_from, any_below_false}
use Rattle.go_rules.proofs.Links.{are_neighbours_comm}
use Rattle.go_rules.proofs.Sets.{contains-insert_nat}
use Rattle.go_rules.proofs.Tests.{same_tests, and-false, or-false, or_comm}
use Rattle.go_base.specs.Sides.{neighbour_at}
use Rattle.go_base.specs.Surroundings.{is_only_liberty}
use Rattle.go_base.proofs.SidesOfPoints.{neighbour_at-near, neighbour_at-all}
use Rattle.go_base.proofs.LastLiberties.{contains-liberty_points}
use Rattle.go_base.proofs.Liberties.{len-liberty_points}
use Rattle.read_rules.specs.Candidates.{is_empty_beside}
use Rattle.read_proof.specs.Beside.{stands_beside}
use Rattle.read_rules.proofs.OneMember.{one_member}

-- a test together with one that passes is the test
and_true : (a : Bool) → a ≡ (a && true)
and_true true = refl
and_true false = refl

-- a neighbour at some side is in the set
pub beside_yes : (s q side l : ℕ) (points : sets.FinSet nat_cmp) → q < s * s → neighbour_at s q side ≡ Some l
    → sets.contains points l ≡ true
    → any_below (s * s) (λ k. sets.contains points k && are_neighbours s k q) ≡ true
beside_yes s q side l points on at has =
    let near = neighbour_at-near s q side l on at in
    any_below_from (s * s) _ l near.0 (and_from _ _ has (are_neighbours_comm s l q ∙ near.1))

-- no neighbour is in the set where no side is
pub beside_no : (s q n : ℕ) (points : sets.FinSet nat_cmp) → q < s * s → 4 ≤ n
    → ((k r : ℕ) → k < n → neighbour_at s q k ≡ Some r → sets.contains points r ≡ false)
    → any_below (s * s) (λ k. sets.contains points k && are_neighbours s k q) ≡ false
beside_no s q n points on four none =
    grind (arith, any_below_false, cases_Bool, neighbour_at-all, are_neighbours_comm, and-false)

-- more liberties than one, or none, are not only one
pub only_none : (s : ℕ) (cells : List Cell) (q p n : ℕ) (libs : sets.FinSet nat_cmp) → libs ≡ liberty_points s cells q
    → n ≡ sets.len libs → eqb n 1 ≡ false → is_only_liberty s cells q p ≡ false
unfolding is_only_liberty
only_none s cells q p n libs its counted many = grind (arith, len-liberty_points)

-- the first of one liberty is the only one
pub only_one : (s : ℕ) (cells : List Cell) (q l n : ℕ) (libs : sets.FinSet nat_cmp) → libs ≡ liberty_points s cells q
    → n ≡ sets.len libs → eqb n 1 ≡ true → sets.contains libs l ≡ true
    → (l < s * s) × ((p : ℕ) → is_only_liberty s cells q p ≡ eqb p l)
unfolding is_only_liberty is_liberty
only_one s cells q l n libs its counted one has =
    grind (arith, contains-liberty_points s cells q, len-liberty_points s cells q, one_member libs l)

-- a set that a point was added to has the points that it had and that one
pub found_add : (new old : sets.FinSet nat_cmp) (p r : ℕ) (b : Bool) → new ≡ sets.insert old p → b ≡ true
    → sets.contains new r ≡ (sets.contains old r || (eqb r p && b))
found_add new old p r b e t = grind (arith, contains-insert_nat, or_comm, and_true)

-- nothing is found where a test fails
pub found_none : (old b : Bool) → b ≡ false → old ≡ (old || b)
found_none old b e = or-false old ∙ ap (λ x. old || x) (sym e)

-- and where it fails with another
pub found_neither : (old a b : Bool) → b ≡ false → old ≡ (old || (a && b))
found_neither old a b e = found_none old (a && b) (ap (λ x. a && x) e ∙ and-false a)

-- nothing is in the empty set
pub none_yet : (found : sets.FinSet nat_cmp) (p : ℕ) → found ≡ sets.empty → sets.contains found p ≡ false
none_yet found p e = ap (λ t. sets.contains t p) e ∙ sets.contains-empty nat_cmp p

module _ (s : ℕ) (cells : List Cell) (cell : Cell) (S : ℕ → Bool) where
  -- a point beside the set passes the test where the cell stands there
  pub beside_true : (p : ℕ) (b : Bool) → p < s * s → b ≡ any_below (s * s) (λ l. S l && are_neighbours s l p)
      → b ≡ true → same_cell (cell_at cells p) cell ≡ stands_beside s cells cell S p
  unfolding stands_beside
  beside_true p b on e t = grind (arith, and_true, lt-ltb)

  -- a point that is not beside the set fails it
  pub beside_false : (p : ℕ) (b : Bool) → b ≡ any_below (s * s) (λ l. S l && are_neighbours s l p) → b ≡ false
      → stands_beside s cells cell S p ≡ false
  unfolding stands_beside
  beside_false p b e f = grind (arith, and-false)

  -- the points of the board that pass are those that were found
  pub beside_found : (n r : ℕ) → s * s ≤ n → any_below n (λ k. eqb r k && stands_beside s cells cell S k)
      ≡ stands_beside s cells cell S r
  unfolding stands_beside
  beside_found n r all = same_tests _ _
      (λ h.
      let k = any_below_gives n _ h in
      let parts = and_parts _ _ k.2 in
      ap (stands_beside s cells cell S) (eqb-true r k.0 parts.0) ∙ parts.1)
      (λ h.
      let on = ltb-true r (s * s) (and_parts _ _ (and_parts _ _ h).0).0 in
      any_below_from n _ r (omega (arith, on, all)) (and_from _ _ (eq-eqb r r refl) h))

-- the first of the liberties is the only one, where there is one
pub only_first : (s : ℕ) (cells : List Cell) (q n : ℕ) (libs : sets.FinSet nat_cmp) (first : Option ℕ)
    → libs ≡ liberty_points s cells q → n ≡ sets.len libs → n ≡ 1
    → IfSome first (λ l. (0 ≤ l) × (l < largest_points) × (sets.contains libs l ≡ true)
    × ((r : ℕ) → 0 ≤ r → r < l → sets.contains libs r ≡ false))
    → IfNone first ((r : ℕ) → 0 ≤ r → sets.contains libs r ≡ false)
    → MatchOption first ((p : ℕ) → is_only_liberty s cells q p ≡ false)
    (λ l. (l < s * s) × (l < largest_points) × ((p : ℕ) → is_only_liberty s cells q p ≡ eqb p l))
unfolding is_only_liberty
only_first s cells q n libs None its counted one some none = λ p.
    ap (λ b. eqb (liberties s cells q) 1 && b)
    (sym (contains-liberty_points s cells q p) ∙ ap (λ t. sets.contains t p) (sym its) ∙ none p (omega arith))
    ∙ and-false (eqb (liberties s cells q) 1)
only_first s cells q n libs (Some l) its counted one some none =
    grind (arith, only_one s cells q l n libs its counted (eq-eqb n 1 one) some.2, eq-eqb n 1 one)

-- a string that is not beside the target has no last liberty to be found
pub not_beside : (enemy beside only : Bool) → beside ≡ false → ((enemy && beside) && only) ≡ false
not_beside true beside only e = ap (λ b. b && only) e
not_beside false beside only e = refl

-- where no stone stands the points beside a set are the empty ones
pub beside_empty : (s : ℕ) (cells : List Cell) (S : ℕ → Bool) (p : ℕ)
    → stands_beside s cells Empty S p ≡ is_empty_beside s cells S p
unfolding stands_beside is_empty_beside
beside_empty s cells S p = refl
