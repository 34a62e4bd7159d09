-- The points that have a byte, and the position that is set up with those of the bytes 1 and 2.
use Rattle.std.proofs.Common.{◌≡◌, ◌≢◌, ◌∙◌, ℕ, suc, ◌+◌, ◌*◌, ◌<◌, ◌&&◌, Bool, true, false, eqb, ltb, List, map}
use Rattle.std.proofs.Common.{refl, sym, ap, arith, inl, inr, add-one, length, Option, Some, None, if◌then◌else◌}
use Rattle.std.specs.Ordering.{nat_cmp}
use Rattle.std.specs.FinSet as sets
use Rattle.std.proofs.lemmas.Bool.{cases_eq, cases_lt, lt-ltb, le-ltb, eq-eqb, ne_eqb}
use Rattle.std.proofs.lemmas.List.{length-map, get_or-map}
use Rattle.std.proofs.lemmas.List.FromFn.{fill_by_all}
use Rattle.go_rules.specs.declared.Cell.{Cell}
use Rattle.go_rules.specs.declared.Cell.TheVariants.{Empty}
use Rattle.go_rules.specs.Position.{BoardState, board_of}
use Rattle.go_rules.proofs.Counts.{any_below_false}
use Rattle.go_rules.proofs.Sets.{contains-insert_nat}
use Rattle.go_base.specs.Setups.{setup_of, cells_with, cell_among, have_common_point, has_dead_string}
use Rattle.board_bytes.specs.Bytes.{byte_at, has_byte, cell_of, stones_of}

-- the numbers below the next one are those below, but for this one
ltb-other : (q n : ℕ) → q ≢ n → ltb q (suc n) ≡ ltb q n
ltb-other q n ne = grind (arith, cases_lt, lt-ltb, le-ltb)

-- no point lies below the first
pub none_yet : (bytes : List ℕ) (b q : ℕ) (found : sets.FinSet nat_cmp) → found ≡ sets.empty
    → sets.contains found q ≡ has_byte bytes b 0 q
none_yet bytes b q found e =
    ap (λ f. sets.contains f q) e ∙ sets.contains-empty nat_cmp q ∙ sym (rw (le-ltb q 0 (omega arith)) refl)

-- one more point, which has the byte
pub one_more : (bytes : List ℕ) (b n q : ℕ) (found next : sets.FinSet nat_cmp)
    → sets.contains found q ≡ has_byte bytes b n q → eqb (byte_at bytes n) b ≡ true → next ≡ sets.insert found n
    → sets.contains next q ≡ has_byte bytes b (n + 1) q
one_more bytes b n q found next so is e =
    grind (arith, contains-insert_nat, add-one, cases_eq, eq-eqb, lt-ltb, ne_eqb, ltb-other)

-- one more point, which has not
pub no_more : (bytes : List ℕ) (b n q : ℕ) (found : sets.FinSet nat_cmp)
    → sets.contains found q ≡ has_byte bytes b n q → eqb (byte_at bytes n) b ≡ false
    → sets.contains found q ≡ has_byte bytes b (n + 1) q
no_more bytes b n q found so not_so = grind (arith, add-one, cases_eq, le-ltb, lt-ltb, ltb-other)

-- the points of a set are those of the first n that have the byte
abbrev pub ArePoints : List ℕ → ℕ → ℕ → sets.FinSet nat_cmp → Type 0
ArePoints bytes b n found = (q : ℕ) → sets.contains found q ≡ has_byte bytes b n q

-- a byte is not both 1 and 2
not_both : (on : Bool) (b : ℕ) → ((on && eqb b 1) && (on && eqb b 2)) ≡ false
not_both false b = refl
not_both true b = elim (cases_eq b 1) [ inl one ↦ rw one refl | inr other ↦ rw (ne_eqb b 1 other) refl ]

-- the points of the bytes 1 and 2 have none in common
none_in_common : (s : ℕ) (bytes : List ℕ) (black white : sets.FinSet nat_cmp) → ArePoints bytes 1 (s * s) black
    → ArePoints bytes 2 (s * s) white → have_common_point s black white ≡ false
unfolding have_common_point
none_in_common s bytes black white b w = grind (arith, any_below_false, not_both)

-- the cell of a point by the two sets is that of its byte
cell_by_sets : (s : ℕ) (bytes : List ℕ) (black white : sets.FinSet nat_cmp) (p : ℕ) → p < s * s
    → ArePoints bytes 1 (s * s) black → ArePoints bytes 2 (s * s) white
    → cell_of (byte_at bytes p) ≡ cell_among black white p
cell_by_sets s bytes black white p on b w = rw (b p, w p, lt-ltb p (s * s) on) refl

-- what stands where these are the points of the stones is what the bytes name
cells_by_sets : (s : ℕ) (bytes : List ℕ) (black white : sets.FinSet nat_cmp) → length bytes ≡ s * s
    → ArePoints bytes 1 (s * s) black → ArePoints bytes 2 (s * s) white → cells_with s black white ≡ map cell_of bytes
unfolding cells_with
cells_by_sets s bytes black white long b w =
    sym (fill_by_all (cell_among black white) (map cell_of bytes) (s * s) Empty (length-map bytes cell_of ∙ long)
    (λ p on. get_or-map cell_of bytes p 0 Empty (omega (arith, long, on))
    ∙ cell_by_sets s bytes black white p on b w))

-- stones that have no point in common are set up if no string is dead
set_up_with : (s : ℕ) (black white : sets.FinSet nat_cmp) (cells : List Cell) → have_common_point s black white ≡ false
    → cells_with s black white ≡ cells
    → setup_of s black white ≡ (if has_dead_string s cells then None else Some (board_of s cells))
unfolding setup_of
set_up_with s black white cells apart e = rw (apart, e) refl

-- what is set up by the points of the bytes 1 and 2 is the position of the bytes
pub set_up_is : (s : ℕ) (bytes : List ℕ) (black white : sets.FinSet nat_cmp) (found : Option BoardState)
    → length bytes ≡ s * s → ArePoints bytes 1 (s * s) black → ArePoints bytes 2 (s * s) white
    → found ≡ setup_of s black white → found ≡ stones_of s bytes
unfolding stones_of
set_up_is s bytes black white found long b w e =
    e ∙ set_up_with s black white (map cell_of bytes) (none_in_common s bytes black white b w)
    (cells_by_sets s bytes black white long b w)
