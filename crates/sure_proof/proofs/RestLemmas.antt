-- The sets of points as loops and looks find them.
use Rattle.std.proofs.Common.{◌≡◌, ◌∙◌, ℕ, ◌+◌, ◌*◌, ◌<◌, ◌≤◌, ◌&&◌, Bool, true, false, not, List, Option}
use Rattle.std.proofs.Common.{Some, None, refl, sym, ap, arith, leb, add-one}
use Rattle.std.specs.Option.{option_map, option_and_then}
use Rattle.std.specs.FinSet as sets
use Rattle.std.specs.Prelude.{IfSome, IfNone}
use Rattle.std.proofs.lemmas.Bool.{lt-ltb}
use Rattle.go_rules.specs.declared.Cell.{Cell}
use Rattle.go_rules.specs.Below.{any_below}
use Rattle.go_rules.specs.Board.{largest_points, are_neighbours}
use Rattle.go_rules.specs.declared.Cell.TheVariants.{Empty}
use Rattle.go_rules.specs.declared.Colour.{Colour}
use Rattle.go_rules.specs.Strings.{cell_at, same_cell, is_liberty, is_in_string, string_at, liberty_points, liberties}
use Rattle.go_base.specs.Floods.{enemy_points}
use Rattle.go_base.specs.Sides.{neighbour_at}
use Rattle.read_rules.specs.Candidates.{is_empty_beside}
use Rattle.go_rules.proofs.Counts.{first_below_is, first_below_none, any_below_same, any_below_from, any_below_false}
use Rattle.go_rules.proofs.Sets.{contains-set_below, len-set_below}
use Rattle.sure_proof.specs.Rests.{Points, union_below, first_of, first_within, two_within, shown_by, shows_atari}
use Rattle.sure_proof.specs.Rests.{is_empty_at, has_empty_neighbour}
use Rattle.sure_proof.specs.Rests.{is_open, open_neighbour, weak_enemy_at, linked_at}
use Rattle.sure_proof.specs.Rests.{else_point}
use Rattle.wider_rules.specs.Further.{is_weak_enemy, is_linked, few_of_parted}
use Rattle.wider_rules.proofs.StringLemmas.{has_enemy}

-- the least point of a set that has points is the first that is found
pub first_is : (S : Points) (l : ℕ) → l < largest_points → sets.contains S l ≡ true
    → ((r : ℕ) → 0 ≤ r → r < l → sets.contains S r ≡ false) → first_of S ≡ Some l
first_is S l low here before = grind (arith, first_below_is largest_points (sets.contains S) l low here)

-- a set in which none is found has none
pub first_none : (S : Points) → ((r : ℕ) → 0 ≤ r → sets.contains S r ≡ false) → first_of S ≡ None
first_none S none = first_below_none largest_points (sets.contains S) (λ k less. none k (omega arith))

-- what a search from 0 on finds is the least point
pub first_found : (S : Points) (o : Option ℕ)
    → IfSome o (λ q. (0 ≤ q) × (q < largest_points) × (sets.contains S q ≡ true)
    × ((r : ℕ) → 0 ≤ r → r < q → sets.contains S r ≡ false))
    → IfNone o ((r : ℕ) → 0 ≤ r → sets.contains S r ≡ false) → first_of S ≡ o
first_found S (Some q) some none = first_is S q some.1 some.2 some.3
first_found S None some none = first_none S none

-- Two points of a set.
module _ (Z S : Points) where
  -- the first within Z, by what was found in both sets and by what was found in S alone
  pub within_by : (first second : Option ℕ) → first_of (sets.intersection S Z) ≡ first → first_of S ≡ second
      → first_within Z S ≡ else_point first second
  within_by first second a b = ap (λ o. else_point o (first_of S)) a ∙ ap (else_point first) b

  -- behind the first come those of the rest
  pub two_behind : (l : ℕ) (o : Option ℕ) → first_within Z S ≡ Some l → first_within Z (sets.remove S l) ≡ o
      → two_within Z S ≡ option_map {T = ℕ} {U = ℕ × ℕ} (λ k. (l, k)) o
  two_behind l o e rest = ap (option_and_then (λ m. option_map {T = ℕ} {U = ℕ × ℕ} (λ k. (m, k))
      (first_within Z (sets.remove S m)))) e ∙ ap (option_map {T = ℕ} {U = ℕ × ℕ} (λ k. (l, k))) rest

-- one more set
pub union_more : (n : ℕ) (each : ℕ → Points) → sets.union (union_below n each) (each n) ≡ union_below (n + 1) each
union_more n each = sym (ap (λ m. union_below m each) (add-one n))

-- the set of the liberties has a point exactly if it is a liberty
pub in_liberties : (s : ℕ) (cells : List Cell) (q l : ℕ) → l < s * s
    → sets.contains (liberty_points s cells q) l ≡ is_liberty s cells q l
unfolding liberty_points
in_liberties s cells q l on = grind (arith, contains-set_below, lt-ltb)

-- it has as many points as the string has liberties
pub liberties_in : (s : ℕ) (cells : List Cell) (q : ℕ) → sets.len (liberty_points s cells q) ≡ liberties s cells q
unfolding liberty_points liberties
liberties_in s cells q = len-set_below (s * s) (is_liberty s cells q)

-- a point is next to a liberty exactly if it is next to a point of their set
pub beside_same : (s : ℕ) (cells : List Cell) (q p : ℕ)
    → any_below (s * s) (λ l. sets.contains (liberty_points s cells q) l && are_neighbours s l p)
    ≡ any_below (s * s) (λ l. is_liberty s cells q l && are_neighbours s l p)
beside_same s cells q p = grind (arith, any_below_same, in_liberties)

-- a point of the board is empty and next to a liberty exactly if nothing stands there and a neighbour is in their set
pub empty_beside : (s : ℕ) (cells : List Cell) (q p : ℕ) → p < s * s
    → is_empty_beside s cells (is_liberty s cells q) p ≡ (same_cell (cell_at cells p) Empty
    && any_below (s * s) (λ l. sets.contains (liberty_points s cells q) l && are_neighbours s l p))
unfolding is_empty_beside
empty_beside s cells q p on = grind (arith, lt-ltb, beside_same)

-- what shows whether a string is in atari, written out
pub shows_is : (s : ℕ) (cells : List Cell) (Z : Points) (q : ℕ) → shows_atari s cells Z q
    ≡ sets.insert (shown_by (string_at s cells q) (liberty_points s cells q) (enemy_points s cells q)
    (two_within Z (liberty_points s cells q))) q
unfolding shows_atari
shows_is s cells Z q = refl

-- The neighbours of p, side by side.
module _ (s : ℕ) (cells : List Cell) (p : ℕ) where
  -- a side with an empty neighbour shows that there is one
  pub room_found : (side : ℕ) → side < 4 → is_empty_at cells (neighbour_at s p side) ≡ true
      → has_empty_neighbour s cells p ≡ true
  unfolding has_empty_neighbour
  room_found side less here = any_below_from 4 (λ k. is_empty_at cells (neighbour_at s p k)) side less here

  -- without such a side there is none
  pub room_none : (n : ℕ) → 4 ≤ n → ((k : ℕ) → k < n → is_empty_at cells (neighbour_at s p k) ≡ false)
      → has_empty_neighbour s cells p ≡ false
  unfolding has_empty_neighbour
  room_none n four none = any_below_false 4 (λ k. is_empty_at cells (neighbour_at s p k))
      (λ k less. none k (omega (arith, less, four)))

-- The neighbours of p, side by side.
module _ (s : ℕ) (cells : List Cell) (c : Colour) (p : ℕ) where
  -- the first side with an open neighbour has the first one
  pub open_is : (side : ℕ) → side < 4 → ((k : ℕ) → k < side → is_open cells c (neighbour_at s p k) ≡ false)
      → is_open cells c (neighbour_at s p side) ≡ true → open_neighbour s cells c p ≡ neighbour_at s p side
  unfolding open_neighbour
  open_is side less none here = ap (option_and_then (neighbour_at s p))
      (first_below_is 4 (λ k. is_open cells c (neighbour_at s p k)) side less here none)

  -- without such a side there is none
  pub open_none : (n : ℕ) → 4 ≤ n → ((k : ℕ) → k < n → is_open cells c (neighbour_at s p k) ≡ false)
      → open_neighbour s cells c p ≡ None
  unfolding open_neighbour
  open_none n four none = ap (option_and_then (neighbour_at s p))
      (first_below_none 4 (λ k. is_open cells c (neighbour_at s p k)) (λ k less. none k (omega (arith, less, four))))

-- what both of a pair say is what both say of them in the other order
both_swapped : (a b : Bool) → (a && b) ≡ (b && a)
both_swapped true true = refl
both_swapped true false = refl
both_swapped false true = refl
both_swapped false false = refl

-- what three say together does not depend on which two are read first
three_grouped : (a b c : Bool) → (a && (b && c)) ≡ ((a && b) && c)
three_grouped true b c = refl
three_grouped false b c = refl

-- a weak enemy with p for a liberty is in the set of the enemies, and its string has few liberties, one of which is p
pub weak_by_set : (most s : ℕ) (cells : List Cell) (target q p : ℕ) (foes : Points) → q < s * s
    → foes ≡ enemy_points s cells target
    → (is_weak_enemy most s cells target q && is_liberty s cells q p)
    ≡ (sets.contains foes q && (leb (liberties s cells q) most && is_liberty s cells q p))
unfolding is_weak_enemy
weak_by_set most s cells target q p foes on e =
    grind (arith, has_enemy s cells target q foes e, lt-ltb q (s * s) on, three_grouped, both_swapped)

-- The points of the board, one by one.
module _ (most s : ℕ) (cells : List Cell) (target p : ℕ) where
  -- the first weak enemy that has p for a liberty is the first that passes
  pub weak_is : (q : ℕ) → q < s * s
      → ((k : ℕ) → k < q → (is_weak_enemy most s cells target k && is_liberty s cells k p) ≡ false)
      → (is_weak_enemy most s cells target q && is_liberty s cells q p) ≡ true
      → weak_enemy_at most s cells target p ≡ Some q
  unfolding weak_enemy_at
  weak_is q less none here =
      first_below_is (s * s) (λ k. is_weak_enemy most s cells target k && is_liberty s cells k p) q less here none

  -- there is none if none passes
  pub weak_none : (n : ℕ) → s * s ≤ n
      → ((k : ℕ) → k < n → (is_weak_enemy most s cells target k && is_liberty s cells k p) ≡ false)
      → weak_enemy_at most s cells target p ≡ None
  unfolding weak_enemy_at
  weak_none n all none = grind (arith, first_below_none)

-- a linked string with p for a liberty is a friend's, and has few liberties, one of which is p
pub linked_by_parts : (s : ℕ) (cells : List Cell) (target q p : ℕ)
    → (is_linked few_of_parted s cells target q && is_liberty s cells q p)
    ≡ (((same_cell (cell_at cells q) (cell_at cells target)
    && any_below (s * s) (λ l. is_liberty s cells target l && are_neighbours s l q))
    && not (is_in_string s cells target q))
    && (leb (liberties s cells q) few_of_parted && is_liberty s cells q p))
unfolding is_linked
linked_by_parts s cells target q p = grind (arith, three_grouped)

-- The points of the board, one by one.
module _ (s : ℕ) (cells : List Cell) (target p : ℕ) where
  -- the first stone of a linked string that has p for a liberty is the first that passes
  pub linked_is : (q : ℕ) → q < s * s
      → ((k : ℕ) → k < q → (is_linked few_of_parted s cells target k && is_liberty s cells k p) ≡ false)
      → (is_linked few_of_parted s cells target q && is_liberty s cells q p) ≡ true
      → linked_at s cells target p ≡ Some q
  unfolding linked_at
  linked_is q less none here =
      first_below_is (s * s) (λ k. is_linked few_of_parted s cells target k && is_liberty s cells k p) q less here none

  -- there is none if none passes
  pub linked_none : (n : ℕ) → s * s ≤ n
      → ((k : ℕ) → k < n → (is_linked few_of_parted s cells target k && is_liberty s cells k p) ≡ false)
      → linked_at s cells target p ≡ None
  unfolding linked_at
  linked_none n all none = grind (arith, first_below_none)
