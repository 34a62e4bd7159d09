-- Boards that are set up, and the strings on them that have no liberty.
use Rattle.std.proofs.Common.{◌≡◌, ℕ, ◌+◌, ◌*◌, ◌<◌, ◌≤◌, ◌&&◌, true, false, List, length, take, drop}
use Rattle.std.proofs.Common.{Some, None, refl, sym, ap, ◌∙◌, arith, nat_eq, set, inl, inr, not, eqb, ◌≢◌}
use Rattle.std.proofs.Common.{get_or-take, length-take, length-set}
use Rattle.std.proofs.lemmas.List.{get_or-set_same, get_or-set_other, drop-set-lt}
use Rattle.std.proofs.lemmas.List.FromFn.{fill_by_all}
use Rattle.std.proofs.lemmas.Bool.{cases_Bool, cases_eq, and_cases, both_ways, eqb-false, eq-eqb, ne_eqb, and_from}
use Rattle.std.proofs.lemmas.Bool.{and_parts, or_cases}
use Rattle.std.specs.Cmp.{nat_cmp_total}
use Rattle.std.specs.FinSet as sets
use Rattle.std.specs.Ordering.{nat_cmp}
use Rattle.go_rules.specs.declared.Cell.{Cell}
use Rattle.go_rules.specs.declared.Cell.TheVariants.{Empty}
use Rattle.go_rules.specs.Board.{smallest_size, largest_size, largest_points}
use Rattle.go_rules.specs.Below.{any_below}
use Rattle.go_rules.specs.Strings.{cell_at, is_stone, liberties, string_at, is_in_string, IsInString}
use Rattle.go_rules.specs.Position.{board_of}
use Rattle.go_rules.proofs.Counts.{any_below_false, any_below_from, any_below_none, any_below_gives}
use Rattle.go_rules.proofs.InWords.{string_back_in_words}
use Rattle.go_rules.proofs.Links.{liberty_moves, liberties_some, liberties_from}
use Rattle.go_rules.proofs.Paths.{path_on_board, IsInString-from_test}
use Rattle.go_rules.proofs.Sets.{contains-set_below}
use Rattle.go_rules.proofs.Tests.{and-false}
use Rattle.go_base.proofs.Marks.{no_members}
use Rattle.go_base.specs.Flats.{KeepsRest}
use Rattle.go_base.specs.Positions.{HoldsWith, padding, position_on}
use Rattle.go_base.specs.Setups.{is_dead_at, has_dead_string, have_common_point}
use Rattle.go_base.specs.Setups.{cell_among, cells_with, setup_of, AreAlive}
use Rattle.go_base.specs.declared.view.Flat.{Flat}
use Rattle.go_base.proofs.SidesOfPoints.{square_small}

-- a stone of a string without a liberty is dead
pub dead_from : (s : ℕ) (cells : List Cell) (p n : ℕ) → is_stone (cell_at cells p) ≡ true → n ≡ liberties s cells p
    → n ≡ 0 → is_dead_at s cells p ≡ true
dead_from s cells p n stone counted none = and_from _ _ stone (eq-eqb (liberties s cells p) 0 (sym counted ∙ none))

-- nor is any stone of its string
alive_with : (s : ℕ) (cells : List Cell) (p q : ℕ) → p < s * s → 0 < liberties s cells p → IsInString s cells p q
    → is_dead_at s cells q ≡ false
alive_with s cells p q on some its =
    grind (arith, liberties_some, path_on_board, ne_eqb, and-false, liberties_from, liberty_moves, string_back_in_words)

-- what the set of a string's stones has is in the string
in_string_at : (s : ℕ) (cells : List Cell) (p q : ℕ) → sets.contains (string_at s cells p) q ≡ true
    → IsInString s cells p q
unfolding string_at
in_string_at s cells p q h = IsInString-from_test s cells p q
    (and_parts _ _ (sym (contains-set_below (s * s) (is_in_string s cells p) q) ∙ h)).1

-- the point that a search begins at is alive where it sees a liberty
pub alive_seen : (s : ℕ) (cells : List Cell) (p n : ℕ) → n ≡ liberties s cells p → n ≢ 0 → is_dead_at s cells p ≡ false
alive_seen s cells p n counted ne = grind (arith, ne_eqb, and-false)

-- no point is in the empty set
pub AreAlive-none : (s : ℕ) (cells : List Cell) (alive : sets.FinSet nat_cmp) → alive ≡ sets.empty
    → AreAlive s cells alive
AreAlive-none s cells alive e p h = absurd (both_ways (sets.contains alive p)
    (ap (λ t. sets.contains t p) e ∙ sets.contains-empty nat_cmp p) h)

-- the stones of a string with a liberty are alive
pub AreAlive-more : (s : ℕ) (cells : List Cell) (p n : ℕ) (old stones new : sets.FinSet nat_cmp) → p < s * s
    → stones ≡ string_at s cells p → n ≡ liberties s cells p → n ≢ 0 → new ≡ sets.union old stones
    → AreAlive s cells old → AreAlive s cells new
AreAlive-more s cells p n old stones new on its counted ne joined alive q h =
    elim (or_cases (sets.contains old q) (sets.contains stones q)
    (sym (ap (λ t. sets.contains t q) joined ∙ sets.contains-union nat_cmp_total old stones q) ∙ h)) [
      | inl before ↦ alive q before
      | inr now ↦ alive_with s cells p q on (omega (arith, counted, ne))
          (in_string_at s cells p q (ap (λ t. sets.contains t q) (sym its) ∙ now))
    ]

-- if no point is dead, no string is
pub none_dead : (s : ℕ) (cells : List Cell) → ((k : ℕ) → k < s * s → is_dead_at s cells k ≡ false)
    → has_dead_string s cells ≡ false
unfolding has_dead_string
none_dead s cells h = any_below_false (s * s) (is_dead_at s cells) h

-- where a point is dead, its string is
pub one_dead : (s : ℕ) (cells : List Cell) (k : ℕ) → k < s * s → is_dead_at s cells k ≡ true
    → has_dead_string s cells ≡ true
unfolding has_dead_string
one_dead s cells k on h = any_below_from (s * s) (is_dead_at s cells) k on h

-- a point of the board that is in both sets is one that they have in common
pub common_counted : (s : ℕ) (black white both : sets.FinSet nat_cmp) (n : ℕ) → n ≡ sets.len both
    → both ≡ sets.intersection black white → ((p : ℕ) → sets.contains black p ≡ true → p < s * s)
    → not (eqb n 0) ≡ have_common_point s black white
unfolding have_common_point
common_counted s black white both n counted is on =
    elim (cases_Bool (any_below (s * s) (λ p. sets.contains black p && sets.contains white p))) [
      | inl t ↦
          let found = any_below_gives (s * s) _ t in
          let some : n ≢ 0 = λ e. both_ways (sets.contains both found.0)
          (ap (λ k. sets.contains k found.0) (sets.empty_of_len both (sym counted ∙ e))
          ∙ sets.contains-empty nat_cmp found.0) (has found.0 ∙ found.2) in
          ap not (ne_eqb n 0 some) ∙ sym t
      | inr f ↦
          ap not (eq-eqb n 0 (counted ∙ ap sets.len (no_members both (λ q. has q ∙ none q f))
          ∙ sets.len-empty nat_cmp)) ∙ sym f
    ]
  where
    has : (q : ℕ) → sets.contains both q ≡ (sets.contains black q && sets.contains white q)
    has q = ap (λ k. sets.contains k q) is ∙ sets.contains-intersection nat_cmp_total black white q

    none : (q : ℕ) → any_below (s * s) (λ p. sets.contains black p && sets.contains white p) ≡ false
        → (sets.contains black q && sets.contains white q) ≡ false
    none q f = elim (cases_Bool (sets.contains black q)) [
      | inl t ↦ any_below_none (s * s) _ q f (on q t)
      | inr g ↦ ap (λ b. b && sets.contains white q) g
    ]

-- the first n cells are those of the stones, and the cells past the board are empty
pub record IsSetTo (s : ℕ) (black white : sets.FinSet nat_cmp) (n : ℕ) (cells : List Cell) : Type 0 where
  pub whole : length cells ≡ largest_points
  pub filled : (k : ℕ) → k < n → cell_at cells k ≡ cell_among black white k
  pub padded : drop (s * s) cells ≡ padding s

-- all cells of the board
pub IsSetTo-all : {s : ℕ} {black white : sets.FinSet nat_cmp} {cells : List Cell}
    → IsSetTo s black white (s * s) cells → s ≤ largest_size → take (s * s) cells ≡ cells_with s black white
unfolding cells_with
IsSetTo-all {s} {black} {white} {cells} h small =
    let few = square_small s small in
    let long : length (take (s * s) cells) ≡ s * s = simp length-take (omega (arith, h.whole, few)) in
    fill_by_all (cell_among black white) (take (s * s) cells) (s * s) Empty long
    (λ k on. get_or-take (s * s) cells k Empty on ∙ h.filled k on)

-- a stone that is not dead has a liberty
pub alive_from : (s : ℕ) (cells : List Cell) (p : ℕ) → is_dead_at s cells p ≡ false
    → is_stone (cell_at cells p) ≡ true → 0 < liberties s cells p
alive_from s cells p h stone = grind (arith, and_cases, nat_eq, both_ways, eqb-false)

-- a board without a dead string is a position
pub held_setup : (board : Flat) → smallest_size ≤ board.size → board.size ≤ largest_size
    → length board.cells ≡ largest_points → drop (board.size * board.size) board.cells ≡ padding board.size
    → has_dead_string board.size (take (board.size * board.size) board.cells) ≡ false → HoldsWith board None
unfolding has_dead_string
held_setup board low high whole padded alive =
    let s = board.size in
    let cells = take (s * s) board.cells in
    let few = square_small s high in
    record {
      position = record {
        size_at_least = low;
        size_at_most = high;
        cells = simp length-take (omega (arith, whole, few));
        alive = λ p on stone. alive_from s cells p (any_below_none (s * s) (is_dead_at s cells) p alive on) stone;
        ban = tt;
      };
      padded = padded;
    }

-- sets with a point in common set up no position
pub setup_common : (s : ℕ) (black white : sets.FinSet nat_cmp) → have_common_point s black white ≡ true
    → None ≡ setup_of s black white
unfolding setup_of
setup_common s black white h = rw h refl

-- nor do stones of which some string has no liberty
pub setup_dead : (s : ℕ) (black white : sets.FinSet nat_cmp) → have_common_point s black white ≡ false
    → has_dead_string s (cells_with s black white) ≡ true → None ≡ setup_of s black white
unfolding setup_of
setup_dead s black white h d = rw (h, d) refl

-- other stones do
pub setup_done : (s : ℕ) (black white : sets.FinSet nat_cmp) → have_common_point s black white ≡ false
    → has_dead_string s (cells_with s black white) ≡ false
    → Some (board_of s (cells_with s black white)) ≡ setup_of s black white
unfolding setup_of
setup_done s black white h d = rw (h, d) refl

-- the test of the stones is the test of a board that holds them
pub dead_before : (s : ℕ) (black white : sets.FinSet nat_cmp) (board : Flat) → board.size ≡ s
    → take (s * s) board.cells ≡ cells_with s black white
    → has_dead_string s (cells_with s black white)
    ≡ has_dead_string board.size (take (board.size * board.size) board.cells)
dead_before s black white board e cells = grind arith

-- a board that holds the stones, and after it was looked at holds them still, is the position
pub cells_kept : (s : ℕ) (black white : sets.FinSet nat_cmp) (old new : Flat) → old.size ≡ s
    → take (s * s) old.cells ≡ cells_with s black white → KeepsRest old new
    → take (new.size * new.size) new.cells ≡ take (old.size * old.size) old.cells
    → position_on new None ≡ board_of s (cells_with s black white)
cells_kept s black white old new e cells keeps same = grind arith

-- a board without a dead string that was looked at is a position still
pub held_after : (s : ℕ) (old new : Flat) → smallest_size ≤ s → s ≤ largest_size → old.size ≡ s
    → length old.cells ≡ largest_points → drop (s * s) old.cells ≡ padding s → KeepsRest old new
    → take (new.size * new.size) new.cells ≡ take (old.size * old.size) old.cells
    → has_dead_string old.size (take (old.size * old.size) old.cells) ≡ false → HoldsWith new None
held_after s old new low high e whole padded keeps same alive = grind (arith, held_setup new)
