-- What is set up, in words.
use Rattle.std.proofs.Common.{◌≡◌, ◌≢◌, ℕ, ◌*◌, ◌<◌, ◌&&◌, ◌↔◌, true, false, List, Some, None, refl, sym, ap, subst}
use Rattle.std.proofs.Common.{◌∙◌, arith, inl, inr, length}
use Rattle.std.proofs.lemmas.Bool.{cases_Bool, both_ways, eqb-true, and_parts, and_from}
use Rattle.std.proofs.lemmas.List.FromFn.{get_or-map-range_with_len, length-map-range_with_len}
use Rattle.std.specs.Ordering.{nat_cmp}
use Rattle.std.specs.FinSet as sets
use Rattle.go_rules.specs.declared.Cell.{Cell}
use Rattle.go_rules.specs.declared.Cell.TheVariants.{Empty, Black, White}
use Rattle.go_rules.specs.Board.{IsSize}
use Rattle.go_rules.specs.Strings.{cell_at, is_stone, IsLiberty}
use Rattle.go_rules.specs.Position.{BoardState, IsPosition, board_of}
use Rattle.go_rules.proofs.Counts.{any_below_gives, any_below_from, any_below_none}
use Rattle.go_rules.proofs.Links.{liberties_some, liberties_from}
use Rattle.go_base.specs.Setups.{is_dead_at, has_dead_string, have_common_point, cell_among, cells_with, setup_of}
use Rattle.go_base.specs.Setups.{CannotBeSetUp, both, dead}
use Rattle.go_base.proofs.Setups.{setup_common, setup_dead, setup_done, one_dead, alive_from}

-- what the setup gives: no point is in both sets, no string is dead, and the position is that of the stones
record IsSetUp (s : ℕ) (black white : sets.FinSet nat_cmp) (pos : BoardState) : Type 0 where
  apart : have_common_point s black white ≡ false
  alive : has_dead_string s (cells_with s black white) ≡ false
  is : board_of s (cells_with s black white) ≡ pos

-- a position that is set up is that of the stones
set_up : (s : ℕ) (black white : sets.FinSet nat_cmp) (pos : BoardState) → setup_of s black white ≡ Some pos
    → IsSetUp s black white pos
set_up s black white pos h = grind (arith, cases_Bool, setup_common, setup_dead, setup_done)

-- each point holds what the sets say
pub cell_with : (s : ℕ) (black white : sets.FinSet nat_cmp) (p : ℕ) → p < s * s
    → cell_at (cells_with s black white) p ≡ cell_among black white p
unfolding cells_with
cell_with s black white p on = get_or-map-range_with_len _ 0 (s * s) p p Empty on (omega arith)

-- each point of the position holds what the sets say
holds : (s : ℕ) (black white : sets.FinSet nat_cmp) (pos : BoardState) (p : ℕ) → p < s * s
    → setup_of s black white ≡ Some pos → cell_at pos.cells p ≡ cell_among black white p
holds s black white pos p on h = grind (arith, set_up, cell_with)

-- a black stone stands where the black ones do
pub black_stands : (s : ℕ) (black white : sets.FinSet nat_cmp) (pos : BoardState) (p : ℕ) → p < s * s
    → setup_of s black white ≡ Some pos → sets.contains black p ≡ true → cell_at pos.cells p ≡ Black
black_stands s black white pos p on h b = holds s black white pos p on h ∙ rw b refl

-- a white one where the white ones do
pub white_stands : (s : ℕ) (black white : sets.FinSet nat_cmp) (pos : BoardState) (p : ℕ) → p < s * s
    → setup_of s black white ≡ Some pos → sets.contains white p ≡ true → cell_at pos.cells p ≡ White
unfolding have_common_point
white_stands s black white pos p on h w = elim (cases_Bool (sets.contains black p)) [
  | inl b ↦ absurd (both_ways (sets.contains black p && sets.contains white p)
      (any_below_none (s * s) (λ q. sets.contains black q && sets.contains white q) p (set_up s black white pos h).apart
      on) (and_from _ _ b w))
  | inr none ↦ holds s black white pos p on h ∙ rw (none, w) refl
]

-- and no stone where neither do
pub none_stands : (s : ℕ) (black white : sets.FinSet nat_cmp) (pos : BoardState) (p : ℕ) → p < s * s
    → setup_of s black white ≡ Some pos → sets.contains black p ≡ false → sets.contains white p ≡ false
    → cell_at pos.cells p ≡ Empty
none_stands s black white pos p on h b w = holds s black white pos p on h ∙ rw (b, w) refl

-- no play is banned
pub none_banned : (s : ℕ) (black white : sets.FinSet nat_cmp) (pos : BoardState) → setup_of s black white ≡ Some pos
    → pos.ban ≡ None
none_banned s black white pos h = ap (λ (x : BoardState). x.ban) (sym (set_up s black white pos h).is)

-- there is a cell for each point
cells_all : (s : ℕ) (black white : sets.FinSet nat_cmp) → length (cells_with s black white) ≡ s * s
unfolding cells_with
cells_all s black white = length-map-range_with_len _ 0 (s * s)

-- the board is a position
pub is_position : (s : ℕ) (black white : sets.FinSet nat_cmp) (pos : BoardState) → IsSize s
    → setup_of s black white ≡ Some pos → (pos.size ≡ s) × IsPosition pos
unfolding has_dead_string
is_position s black white pos sized h =
    let up = set_up s black white pos h in
    let cells = cells_with s black white in (
      ap (λ (x : BoardState). x.size) (sym up.is),
      subst IsPosition up.is (record {
        size_at_least = sized.at_least;
        size_at_most = sized.at_most;
        cells = cells_all s black white;
        alive = λ p on stone. alive_from s cells p (any_below_none (s * s) (is_dead_at s cells) p up.alive on) stone;
        ban = tt;
      }),
    )

-- a cell with a stone is not empty
not_empty : (cell : Cell) → is_stone cell ≡ true → cell ≢ Empty
not_empty cell h e = both_ways (is_stone cell) (ap is_stone e) h

-- a string that is dead has no liberty
no_liberty : (s : ℕ) (cells : List Cell) (p l : ℕ) → p < s * s → is_dead_at s cells p ≡ true → IsLiberty s cells p l → ⊥
no_liberty s cells p l on is lib = grind (arith, and_parts, eqb-true, liberties_from)

-- if none is set up, the stones cannot be
refused_by : (s : ℕ) (black white : sets.FinSet nat_cmp) → setup_of s black white ≡ None → CannotBeSetUp s black white
unfolding have_common_point has_dead_string
refused_by s black white h = elim (cases_Bool (have_common_point s black white)) [
  | inl t ↦
      let found = any_below_gives (s * s) (λ p. sets.contains black p && sets.contains white p) t in
      let parts = and_parts _ _ found.2 in
      both found.0 found.1 parts.0 parts.1
  | inr apart ↦ elim (cases_Bool (has_dead_string s (cells_with s black white))) [
    | inl t ↦
        let cells = cells_with s black white in
        let found = any_below_gives (s * s) (is_dead_at s cells) t in
        dead found.0 found.1
        (not_empty _ (ap is_stone (sym (cell_with s black white found.0 found.1)) ∙ (and_parts _ _ found.2).0))
        (λ l. no_liberty s cells found.0 l found.1 found.2)
    | inr alive ↦ absurd (let some = setup_done s black white apart alive ∙ h in cc)
  ]
]

-- stones that cannot be set up are not
refused_from : (s : ℕ) (black white : sets.FinSet nat_cmp) → CannotBeSetUp s black white → setup_of s black white ≡ None
unfolding have_common_point
refused_from s black white (both p on b w) = sym (setup_common s black white
    (any_below_from (s * s) (λ q. sets.contains black q && sets.contains white q) p on (and_from _ _ b w)))
refused_from s black white (dead p on stone none) =
    grind (
      arith,
      setup_common s black white,
      setup_dead s black white,
      one_dead s,
      cell_with s black white p on,
      liberties_some s,
    )

-- the two are the same
pub refused_exactly : (s : ℕ) (black white : sets.FinSet nat_cmp)
    → (setup_of s black white ≡ None) ↔ CannotBeSetUp s black white
refused_exactly s black white = (refused_by s black white, refused_from s black white)
