-- A step of the scan.
use Rattle.std.proofs.Common.{◌≡◌, ℕ, ◌+◌, ◌<◌, ◌≤◌, Bool, List, ◌∷◌, length, drop, get_or, Option, Some, None, refl}
use Rattle.std.proofs.Common.{ap, sym, ◌∙◌, arith}
use Rattle.std.proofs.lemmas.List.{drop_more, drop_all}
use Rattle.cons_parse.specs.declared.calls.Item.{Item}
use Rattle.cons_parse.specs.Scan.{Spot, advance, scanned_from, ended}

-- the scan from a place goes on from the next one
place_step : (s t : Spot) (i : Item) (is : List Item) → advance s i ≡ Some t
    → scanned_from s (i ∷ is) ≡ scanned_from t is
unfolding scanned_from
place_step s t i is h = rw h refl

-- where an item may not stand, the scan gives nothing
none_step : (s : Spot) (i : Item) (is : List Item) → advance s i ≡ None → scanned_from s (i ∷ is) ≡ None
unfolding scanned_from
none_step s i is h = rw h refl

-- over an item, what is left gives the same as the whole
pub next_place : (s t : Spot) (items : List Item) (at : ℕ) (d : Item) (all : Option Bool) → at < length items
    → advance s (get_or items at d) ≡ Some t
    → scanned_from s (drop at items) ≡ all → scanned_from t (drop (at + 1) items) ≡ all
next_place s t items at d all l f h = grind (arith, drop_more, place_step)

-- where an item may not stand, the whole gives nothing
pub no_place : (s : Spot) (items : List Item) (at : ℕ) (d : Item) (all : Option Bool) → at < length items
    → scanned_from s (drop at items) ≡ all
    → advance s (get_or items at d) ≡ None → all ≡ None
no_place s items at d all l h f = grind (arith, drop_more, none_step)

-- at the end, the whole gives what the last place does
pub at_end : (s : Spot) (items : List Item) (at : ℕ) (all : Option Bool) → length items ≤ at
    → scanned_from s (drop at items) ≡ all → all ≡ ended s
unfolding scanned_from
at_end s items at all l h = sym h ∙ ap (scanned_from s) (drop_all at items l)
