-- A search for a liberty sees one beside the stone, or searches the string.
use Rattle.std.proofs.Common.{◌≡◌, ◌≢◌, ℕ, ◌+◌, ◌*◌, ◌<◌, ◌≤◌, true, false, eqb, Some, None, List, arith}
use Rattle.std.proofs.lemmas.Bool.{cases_Bool, eq-eqb, eqb-true, ne_eqb, both_ways, and_parts, and_from}
use Rattle.std.specs.Option.{is_some}
use Rattle.std.specs.Ordering.{nat_cmp}
use Rattle.std.specs.FinSet as sets
use Rattle.go_rules.specs.declared.Cell.{Cell}
use Rattle.go_rules.specs.declared.Cell.TheVariants.{Empty}
use Rattle.go_rules.specs.Strings.{cell_at, is_stone, same_cell, string_at, liberties, start}
use Rattle.go_rules.proofs.Counts.{any_below_gives, any_below_from}
use Rattle.go_rules.proofs.Paths.{same_cell-true}
use Rattle.go_rules.proofs.Links.{liberties_from}
use Rattle.go_base.specs.Sides.{neighbour_at}
use Rattle.go_base.specs.Floods.{Searches}
use Rattle.go_base.specs.declared.flood.Searched.{Searched}
use Rattle.go_base.specs.WithoutLiberty.{has_empty_neighbour, stones_without_liberty}
use Rattle.go_base.proofs.SidesOfPoints.{neighbour_at-all, neighbour_at-near}
use Rattle.go_base.proofs.EachSide.{each_with}
use Rattle.go_base.proofs.BoundedSearches.{none_seen}

-- the first n sides of q were looked at, and none of them is empty
abbrev pub NoneEmpty : ℕ → List Cell → ℕ → ℕ → Type 0
NoneEmpty s cells q n = (k : ℕ) → k < n → (r : ℕ) → neighbour_at s q k ≡ Some r
    → same_cell (cell_at cells r) Empty ≡ false

-- the next side gives a point that is not empty
pub NoneEmpty-full : (s : ℕ) (cells : List Cell) (q n r : ℕ) → NoneEmpty s cells q n → neighbour_at s q n ≡ Some r
    → same_cell (cell_at cells r) Empty ≡ false → NoneEmpty s cells q (n + 1)
NoneEmpty-full s cells q n r h is full = each_with s q n (λ x. same_cell (cell_at cells x) Empty ≡ false) h r is full

-- the side gives an empty neighbour
pub empty_found : (s : ℕ) (cells : List Cell) (q side r : ℕ) → q < s * s → neighbour_at s q side ≡ Some r
    → same_cell (cell_at cells r) Empty ≡ true → has_empty_neighbour s cells q ≡ true
empty_found s cells q side r on e t = let near = neighbour_at-near s q side r on e in
    any_below_from (s * s) _ r near.0 (and_from _ _ near.1 t)

-- no side gave an empty point
pub NoneEmpty-all : (s : ℕ) (cells : List Cell) (q n : ℕ) → q < s * s → 4 ≤ n → NoneEmpty s cells q n
    → has_empty_neighbour s cells q ≡ false
NoneEmpty-all s cells q n on four h = grind (arith, cases_Bool, any_below_gives, and_parts, neighbour_at-all, both_ways)

-- a stone with an empty neighbour has a liberty
liberty_beside : (s : ℕ) (cells : List Cell) (p : ℕ) → p < s * s → is_stone (cell_at cells p) ≡ true
    → has_empty_neighbour s cells p ≡ true → liberties s cells p ≢ 0
liberty_beside s cells p on stone t z =
    let found = any_below_gives (s * s) _ t in
    let parts = and_parts _ _ found.2 in
    let alive = liberties_from s cells p found.0 on (record {
      on_board = found.1;
      is_empty = same_cell-true _ _ parts.1;
      beside = (p, record { stone = stone; path = start }, parts.0);
    }) in
    omega (arith, alive, z)

-- where a neighbour of the stone is empty there is no string without a liberty
pub liberty_there : (s : ℕ) (cells : List Cell) (p : ℕ) → p < s * s → is_stone (cell_at cells p) ≡ true
    → has_empty_neighbour s cells p ≡ true → None ≡ stones_without_liberty s cells p
unfolding stones_without_liberty
liberty_there s cells p on stone t = grind (arith, ne_eqb, liberty_beside)

-- nor where the search saw a liberty
pub liberty_seen : (s : ℕ) (cells : List Cell) (p n : ℕ) (found : Searched) → is_stone (cell_at cells p) ≡ true
    → Searches s cells p 0 found → n ≡ sets.len found.liberties → n ≢ 0 → None ≡ stones_without_liberty s cells p
unfolding stones_without_liberty
liberty_seen s cells p n found stone h count some = grind (arith, none_seen, ne_eqb)

-- where it saw none, what it found is the string
pub none_there : (s : ℕ) (cells : List Cell) (p n : ℕ) (found : Searched) → is_stone (cell_at cells p) ≡ true
    → Searches s cells p 0 found → n ≡ sets.len found.liberties → n ≡ 0
    → Some found.stones ≡ stones_without_liberty s cells p
unfolding stones_without_liberty
none_there s cells p n found stone h count none = grind (arith, none_seen s cells p n found h count, eq-eqb n 0 none)

-- the stones that are told are the string of a stone, and it has no liberty
pub found_without : (s : ℕ) (cells : List Cell) (p : ℕ) (found : sets.FinSet nat_cmp)
    → Some found ≡ stones_without_liberty s cells p
    → (is_stone (cell_at cells p) ≡ true) × (liberties s cells p ≡ 0) × (found ≡ string_at s cells p)
unfolding stones_without_liberty
found_without s cells p found is = grind (arith, cases_Bool, and_parts, eqb-true)

-- if none are told, a stone's string has a liberty
pub none_without : (s : ℕ) (cells : List Cell) (p : ℕ) → is_stone (cell_at cells p) ≡ true
    → None ≡ stones_without_liberty s cells p → liberties s cells p ≢ 0
unfolding stones_without_liberty
none_without s cells p stone is z = grind arith

-- a stone's string is told exactly if it has no liberty
pub told_where_none : (s : ℕ) (cells : List Cell) (p : ℕ) → is_stone (cell_at cells p) ≡ true
    → is_some (stones_without_liberty s cells p) ≡ eqb (liberties s cells p) 0
unfolding stones_without_liberty
told_where_none s cells p stone = grind arith
