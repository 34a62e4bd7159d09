-- What a search has found that stops where it sees more liberties than its bound.
use Rattle.std.proofs.Common.{◌≡◌, ◌≢◌, ℕ, ◌+◌, ◌*◌, ◌<◌, ◌≤◌, ◌&&◌, Bool, true, eqb, refl, Some, List, sym, ap}
use Rattle.std.proofs.Common.{subst, arith, inl, inr, ◌∙◌}
use Rattle.std.proofs.lemmas.Bool.{cases_eq, cases_lt, ne_eqb, and_parts, and_from, lt-ltb}
use Rattle.std.specs.Ordering.{nat_cmp}
use Rattle.std.specs.FinSet as sets
use Rattle.go_rules.specs.declared.Cell.{Cell}
use Rattle.go_rules.specs.declared.Cell.TheVariants.{Empty}
use Rattle.go_rules.specs.Board.{are_neighbours}
use Rattle.go_rules.specs.Below.{set_below, count_below}
use Rattle.go_rules.specs.Strings.{cell_at, is_stone, is_liberty, string_at, liberties, Path, step}
use Rattle.go_rules.proofs.Counts.{count_below_mono}
use Rattle.go_rules.proofs.Sets.{contains-set_below, same_nat_set, len-set_below}
use Rattle.go_rules.proofs.Paths.{same_cell-true, is_liberty-from_fact}
use Rattle.go_rules.proofs.Links.{path_same}
use Rattle.go_rules.proofs.Tests.{same_tests, and-false}
use Rattle.go_base.specs.Sides.{neighbour_at}
use Rattle.go_base.specs.Floods.{Visits, SpreadsOut, SpreadsUnder, Searches, FindsEnemies, with_enemies}
use Rattle.go_base.specs.declared.flood.Found.{Found}
use Rattle.go_base.specs.declared.flood.Searched.{Searched}
use Rattle.go_base.proofs.Liberties.{len-liberty_points}
use Rattle.go_base.proofs.FloodResults.{Begins, Steps, string_is, string_is_none, string_has, stone_from}
use Rattle.go_base.proofs.FloodVisits.{SpreadsOut-none, SpreadsOut-skip, SpreadsOut-visit}
use Rattle.go_base.proofs.FloodVisits.{FloodsOut, FloodsOut-start, FloodsOut-next, flood_liberties, flood_enemies}
use Rattle.go_base.proofs.FloodVisits.{no_liberties, none_at}

-- l is empty and next to a point that a path leads to from p
abbrev pub IsSeen : ℕ → List Cell → ℕ → ℕ → Type 0
IsSeen s cells p l =
    (l < s * s) × (cell_at cells l ≡ Empty) × (q : ℕ) × Path s cells p q × (are_neighbours s q l ≡ true)

module _ (asked : Bool) (s : ℕ) (cells : List Cell) (own : Cell) (q most : ℕ) where
  -- no side was visited
  pub SpreadsUnder-none : (old : Found) → SpreadsUnder asked s cells own q 0 most old old
  SpreadsUnder-none old = record { sides = 0; whole = λ few. refl; spreads = SpreadsOut-none asked s cells own q old }

  -- if no more liberties than most were seen, the first n sides were visited
  sides_so_far : (n : ℕ) (old new : Found) → SpreadsUnder asked s cells own q n most old new
      → sets.len new.liberties ≤ most → SpreadsOut asked s cells own q n old new
  sides_so_far n old new h few = subst (λ k. SpreadsOut asked s cells own q k old new) (h.whole few) h.spreads

  -- the next side gave nothing
  pub SpreadsUnder-skip : (n : ℕ) (old new : Found) → SpreadsUnder asked s cells own q n most old new
      → sets.len new.liberties ≤ most → ((r : ℕ) → neighbour_at s q n ≡ Some r → ⊥)
      → SpreadsUnder asked s cells own q (n + 1) most old new
  SpreadsUnder-skip n old new h few none = record {
    sides = n + 1;
    whole = λ still. refl;
    spreads = SpreadsOut-skip asked s cells own q n old new (sides_so_far n old new h few) none;
  }

  -- the next side gave a point, which was visited
  pub SpreadsUnder-visit : (n r : ℕ) (old mid new : Found) → SpreadsUnder asked s cells own q n most old mid
      → sets.len mid.liberties ≤ most → q < s * s → neighbour_at s q n ≡ Some r
      → Visits asked own (cell_at cells r) r mid new → SpreadsUnder asked s cells own q (n + 1) most old new
  SpreadsUnder-visit n r old mid new h few on at v = record {
    sides = n + 1;
    whole = λ still. refl;
    spreads = SpreadsOut-visit asked s cells own q n r old mid new (sides_so_far n old mid h few) on at v;
  }

-- the stones that do not wait were visited, all whole if no more liberties than most were seen
pub record FloodsUnder (asked : Bool) (s : ℕ) (cells : List Cell) (own : Cell) (p most : ℕ) (found : Found)
    (wait : sets.FinSet nat_cmp) : Type 0 where
  pub part : (r : ℕ) → sets.contains found.stones r ≡ true → Path s cells p r
  pub seen : (l : ℕ) → sets.contains found.liberties l ≡ true → IsSeen s cells p l
  pub whole : sets.len found.liberties ≤ most → FloodsOut asked s cells own p found wait

-- at first nothing but the point is known
pub FloodsUnder-start : (asked : Bool) (s : ℕ) (cells : List Cell) (own : Cell) (p most : ℕ) (found : Found)
    (wait : sets.FinSet nat_cmp) → Begins p found.stones wait → found.liberties ≡ sets.empty
    → found.enemies ≡ sets.empty → FloodsUnder asked s cells own p most found wait
FloodsUnder-start asked s cells own p most found wait b f e =
    let out = FloodsOut-start asked s cells own p found wait b f e in
    record { part = out.stones.only; seen = λ l h. absurd (none_at found.liberties l f h); whole = λ few. out }

-- one more stone was visited
pub FloodsUnder-next : (asked : Bool) (s : ℕ) (cells : List Cell) (own : Cell) (p q most : ℕ) (old new : Found)
    (wait held waits : sets.FinSet nat_cmp) → p < s * s → FloodsUnder asked s cells own p most old wait
    → Steps s q old.stones new.stones wait held waits → sets.len old.liberties ≤ most → cell_at cells q ≡ own
    → SpreadsUnder asked s cells own q 4 most old new → FloodsUnder asked s cells own p most new waits
FloodsUnder-next asked s cells own p q most old new wait held waits on h st few like sp =
    let path : Path s cells p q = h.part q st.waited in
    record {
      part = λ r b. elim (sp.spreads.stones.only r b) [
        | inl before ↦ h.part r before
        | inr fresh ↦ step path fresh.0 fresh.1 (same_cell-true _ _ fresh.2 ∙ sym like ∙ path_same s cells p path)
      ];
      seen = grind (arith, same_cell-true);
      whole = λ still. FloodsOut-next asked s cells own p q old new wait held waits on (h.whole few) st like
          (subst (λ k. SpreadsOut asked s cells own q k old new) (sp.whole still) sp.spreads);
    }

-- points that were seen lie on the board
seen_below : (s : ℕ) (cells : List Cell) (p : ℕ) (free : sets.FinSet nat_cmp)
    → ((l : ℕ) → sets.contains free l ≡ true → IsSeen s cells p l) → free ≡ set_below (s * s) (sets.contains free)
seen_below s cells p free seen =
    grind (arith, same_nat_set, same_tests, and_from, lt-ltb, and_parts, contains-set_below)

-- points that are all liberties are no more than the string has
seen_are_liberties : (s : ℕ) (cells : List Cell) (p : ℕ) (free : sets.FinSet nat_cmp) → p < s * s
    → is_stone (cell_at cells p) ≡ true → ((l : ℕ) → sets.contains free l ≡ true → IsSeen s cells p l)
    → sets.len free ≤ liberties s cells p
unfolding liberties
seen_are_liberties s cells p free on stone seen =
    let counted : sets.len free ≡ count_below (s * s) (sets.contains free) =
    ap sets.len (seen_below s cells p free seen) ∙ len-set_below (s * s) (sets.contains free) in
    let fewer : count_below (s * s) (sets.contains free) ≤ count_below (s * s) (is_liberty s cells p) =
    count_below_mono (s * s) (sets.contains free) (is_liberty s cells p) (λ l below b.
    let it = seen l b in
    is_liberty-from_fact s cells p l on (record {
      on_board = it.0;
      is_empty = it.1;
      beside = (it.2, record { stone = stone; path = it.3 }, it.4);
    })) in
    omega arith

-- if no stone is left to visit, or more liberties than most were seen, the search has what it tells
pub FloodsUnder-all : (asked : Bool) (s : ℕ) (cells : List Cell) (own : Cell) (p most : ℕ) (found : Searched)
    (met wait : sets.FinSet nat_cmp) → p < s * s → own ≡ cell_at cells p → own ≢ Empty
    → FloodsUnder asked s cells own p most (with_enemies found met) wait
    → (sets.len found.liberties ≤ most → wait ≡ sets.empty) → Searches s cells p most found
FloodsUnder-all asked s cells own p most found met wait on like stone h done =
    let is = stone_from (cell_at cells p) (λ e. stone (like ∙ e)) in
    record {
      stones = λ few. string_is s cells p found.stones wait on is (h.whole few).stones (done few);
      liberties = λ few. flood_liberties asked s cells own p (with_enemies found met) wait on like stone (h.whole few)
          (done few);
      part = λ q b. string_has s cells p q on is (h.part q b);
      more = λ over. omega (arith, over, seen_are_liberties s cells p found.liberties on is h.seen);
    }

-- and the enemies, where they are asked for
pub FloodsUnder-enemies : (asked : Bool) (s : ℕ) (cells : List Cell) (own : Cell) (p most : ℕ) (found : Searched)
    (met wait : sets.FinSet nat_cmp) → p < s * s → own ≡ cell_at cells p → own ≢ Empty
    → FloodsUnder asked s cells own p most (with_enemies found met) wait
    → (sets.len found.liberties ≤ most → wait ≡ sets.empty) → asked ≡ true → FindsEnemies s cells p most found met
FloodsUnder-enemies asked s cells own p most found met wait on like stone h done wanted =
    λ few. flood_enemies asked s cells own p (with_enemies found met) wait on like stone (h.whole few) (done few) wanted

-- of an empty point nothing is found
pub Searches-none : (s : ℕ) (cells : List Cell) (p most : ℕ) (found : Searched) → cell_at cells p ≡ Empty
    → found.stones ≡ sets.empty → found.liberties ≡ sets.empty → Searches s cells p most found
Searches-none s cells p most found e stones free = record {
  stones = λ few. string_is_none s cells p found.stones e stones;
  liberties = λ few. no_liberties s cells p found.liberties e free;
  part = λ q b. absurd (none_at found.stones q stones b);
  more = λ over. absurd (omega (arith, over, ap sets.len free ∙ sets.len-empty nat_cmp));
}

-- a search that saw no more liberties than most has counted those of the string
pub Searches-count : (s : ℕ) (cells : List Cell) (p most n : ℕ) (found : Searched) → Searches s cells p most found
    → n ≡ sets.len found.liberties → n ≤ most → n ≡ liberties s cells p
Searches-count s cells p most n found h count few = grind (arith, len-liberty_points)

-- a search for one liberty has seen none exactly if the string has none
pub none_seen : (s : ℕ) (cells : List Cell) (p n : ℕ) (found : Searched) → Searches s cells p 0 found
    → n ≡ sets.len found.liberties → eqb n 0 ≡ eqb (liberties s cells p) 0
none_seen s cells p n found h count = grind (arith, cases_eq, Searches-count, ne_eqb)

-- a search for two liberties has seen one if the string has one
pub one_seen : (s : ℕ) (cells : List Cell) (p n : ℕ) (found : Searched) → Searches s cells p 1 found
    → n ≡ sets.len found.liberties → liberties s cells p ≡ 1 → n ≡ 1
one_seen s cells p n found h count one = grind (arith, cases_lt 1 n, Searches-count s cells p 1 n found h count)

-- a search for two liberties tells whether the string is one stone with one liberty
pub one_of_each : (s : ℕ) (cells : List Cell) (p stones free : ℕ) (found : Searched) → Searches s cells p 1 found
    → stones ≡ sets.len found.stones → free ≡ sets.len found.liberties
    → (eqb stones 1 && eqb free 1) ≡ (eqb (sets.len (string_at s cells p)) 1 && eqb (liberties s cells p) 1)
one_of_each s cells p stones free found h counted count =
    grind (arith, cases_lt 1 free, ne_eqb, and-false, Searches-count s cells p 1 free found h count)
