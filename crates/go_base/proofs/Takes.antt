-- The strings that a play takes, gathered side by side.
use Rattle.std.proofs.Common.{◌≡◌, ℕ, ◌+◌, ◌*◌, ◌<◌, ◌≤◌, true, false, cond, Some, None, List, refl, sym, ap}
use Rattle.std.proofs.Common.{arith, inl, inr, ◌⊎◌, ◌∙◌}
use Rattle.std.proofs.lemmas.Bool.{cases_Bool, or_cases, or_left, or_right, both_ways, and_parts, and_from}
use Rattle.std.proofs.lemmas.Bool.{lt-ltb, ltb-true, eq-eqb, ne_eqb}
use Rattle.std.specs.Ordering.{nat_cmp}
use Rattle.std.specs.Cmp.{nat_cmp_total}
use Rattle.std.specs.FinSet as sets
use Rattle.go_rules.specs.declared.Cell.{Cell}
use Rattle.go_rules.specs.declared.Colour.{Colour}
use Rattle.go_rules.specs.Strings.{cell_at, is_stone, same_cell, is_in_string, string_at, IsInString}
use Rattle.go_rules.specs.Play.{is_taken, taken_at}
use Rattle.go_rules.specs.Position.{other, stone_of}
use Rattle.go_rules.proofs.Sets.{contains-set_below, same_nat_set}
use Rattle.go_rules.proofs.Paths.{same_cell-from, path_on_board, IsInString-from_test}
use Rattle.go_rules.proofs.Links.{path_on}
use Rattle.go_rules.proofs.Plays.{taken_whole, taken_parts, stone_is}
use Rattle.go_rules.proofs.Tests.{same_tests}
use Rattle.go_base.specs.Sides.{neighbour_at}
use Rattle.go_base.specs.Takes.{TakenBeside, HasWholeStrings, Takes}
use Rattle.go_base.specs.WithoutLiberty.{stones_without_liberty}
use Rattle.go_base.proofs.WithoutLiberty.{found_without, none_without}
use Rattle.go_base.proofs.SidesOfPoints.{neighbour_at-all}
use Rattle.go_base.proofs.EachSide.{same_side}
use Rattle.go_base.proofs.FloodResults.{string_has}

-- no side was visited
pub Takes-none : (s : ℕ) (put : List Cell) (c : Colour) (p : ℕ) (taken : sets.FinSet nat_cmp) → taken ≡ sets.empty
    → Takes s put c p 0 taken
Takes-none s put c p taken e = record {
  only = λ q h. absurd (both_ways (sets.contains taken q)
      (ap (λ t. sets.contains t q) e ∙ sets.contains-empty nat_cmp q) h);
  whole = λ q h. absurd (both_ways (sets.contains taken q)
      (ap (λ t. sets.contains t q) e ∙ sets.contains-empty nat_cmp q) h);
  all = λ k l. absurd (omega arith);
}

-- what a side adds to points of the board lies on the board
pub on_board_with : (s : ℕ) (old new : sets.FinSet nat_cmp) → ((r : ℕ) → sets.contains old r ≡ true → r < s * s)
    → ((r : ℕ) → sets.contains new r ≡ true → (sets.contains old r ≡ true) ⊎ (r < s * s))
    → (r : ℕ) → sets.contains new r ≡ true → r < s * s
on_board_with s old new before came r h = elim (came r h) [ inl there ↦ before r there | inr on ↦ on ]

-- what is in the set of a string is a stone of it
string_gives : (s : ℕ) (cells : List Cell) (r q : ℕ) → sets.contains (string_at s cells r) q ≡ true
    → IsInString s cells r q
unfolding string_at
string_gives s cells r q h =
    IsInString-from_test s cells r q (and_parts _ _ (sym (contains-set_below (s * s) (is_in_string s cells r) q) ∙ h)).1

-- whole strings are whole strings still with the string of one more stone
pub whole_with : (s : ℕ) (cells : List Cell) (r : ℕ) (stones joined : sets.FinSet nat_cmp) → r < s * s
    → HasWholeStrings s cells stones → joined ≡ sets.union stones (string_at s cells r) → HasWholeStrings s cells joined
whole_with s cells r stones joined on whole is =
    let has = λ (q : ℕ). ap (λ x. sets.contains x q) is
    ∙ sets.contains-union nat_cmp_total stones (string_at s cells r) q in
    λ q b x i. has x ∙ elim (or_cases _ _ (sym (has q) ∙ b)) [
      | inl before ↦ or_left _ _ (whole q before x i)
      | inr now ↦ grind (arith, string_gives, or_right, string_has, path_on)
    ]

-- what is taken is a stone
taken_stone : (s : ℕ) (put : List Cell) (c : Colour) (r : ℕ) → is_taken s put c r ≡ true
    → is_stone (cell_at put r) ≡ true
taken_stone s put c r t = ap is_stone (taken_parts s put c r t).0 ∙ stone_is (other c)

-- the next side gave a string that is taken
Takes-add : (s : ℕ) (put : List Cell) (c : Colour) (p n r : ℕ) (taken new : sets.FinSet nat_cmp)
    → Takes s put c p n taken → r < s * s
    → neighbour_at s p n ≡ Some r → is_taken s put c r ≡ true → new ≡ sets.union taken (string_at s put r)
    → Takes s put c p (n + 1) new
Takes-add s put c p n r taken new h on e t is =
    let has = λ (q : ℕ). ap (λ x. sets.contains x q) is
    ∙ sets.contains-union nat_cmp_total taken (string_at s put r) q in
    record {
      only = grind (arith, string_gives s put r, path_on_board s put r on, taken_whole s put c r, or_cases);
      whole = whole_with s put r taken new on h.whole is;
      all = grind (arith, string_has s put r, taken_stone s put c r t, or_left, or_right);
    }

-- the next side gave a point, whose string came if it is taken
pub Takes-next : (s : ℕ) (put : List Cell) (c : Colour) (p n r : ℕ) (taken new : sets.FinSet nat_cmp)
    → Takes s put c p n taken → r < s * s → neighbour_at s p n ≡ Some r
    → new ≡ cond (is_taken s put c r) (sets.union taken (string_at s put r)) taken → Takes s put c p (n + 1) new
Takes-next s put c p n r taken new h on e is =
    grind (arith, cases_Bool (is_taken s put c r), Takes-add s put c p n r taken new h on e, both_ways, same_side)

-- the next side gave nothing
pub Takes-nothing : (s : ℕ) (put : List Cell) (c : Colour) (p n : ℕ) (taken : sets.FinSet nat_cmp)
    → Takes s put c p n taken → ((r : ℕ) → neighbour_at s p n ≡ Some r → ⊥) → Takes s put c p (n + 1) taken
Takes-nothing s put c p n taken h none = grind arith

-- after the four sides all that the rules take is there
pub Takes-all : (s : ℕ) (put : List Cell) (c : Colour) (p n : ℕ) (taken : sets.FinSet nat_cmp) → p < s * s → 4 ≤ n
    → Takes s put c p n taken → TakenBeside s put c p → taken ≡ taken_at s put c
unfolding taken_at
Takes-all s put c p n taken on four h beside =
    same_nat_set _ _ (λ q. same_tests _ _
    (λ b. let o = h.only q b in and_from _ _ (lt-ltb q (s * s) o.0) o.1)
    (λ b.
    let parts = and_parts _ _ b in
    let x = beside q (ltb-true _ _ parts.0) parts.1 in
    let side = neighbour_at-all s p x.0 on x.1 x.2 in
    h.all side.0 (omega (arith, side.1, four)) x.0 side.2 x.3 q x.4)
    ∙ sym (contains-set_below (s * s) (is_taken s put c) q))

-- a stone that is there came with its string
pub union_there : (s : ℕ) (put : List Cell) (q : ℕ) (taken : sets.FinSet nat_cmp) → HasWholeStrings s put taken
    → sets.contains taken q ≡ true → taken ≡ sets.union taken (string_at s put q)
union_there s put q taken whole h =
    same_nat_set _ _ (λ r. same_tests _ _
    (λ b. sets.contains-union nat_cmp_total taken (string_at s put q) r ∙ or_left _ _ b)
    (λ b. elim (or_cases _ _ (sym (sets.contains-union nat_cmp_total taken (string_at s put q) r) ∙ b))
    [ inl before ↦ before | inr now ↦ whole q h r now ]))

-- an enemy's string that was found without a liberty is taken
pub is_taken_from : (s : ℕ) (put : List Cell) (c : Colour) (q : ℕ) (stones : sets.FinSet nat_cmp)
    → cell_at put q ≡ stone_of (other c) → Some stones ≡ stones_without_liberty s put q
    → (is_taken s put c q ≡ true) × (stones ≡ string_at s put q)
unfolding is_taken
is_taken_from s put c q stones enemy is = grind (arith, found_without, and_from, same_cell-from, eq-eqb)

-- an enemy's string in which a liberty was found is not
pub not_taken_from : (s : ℕ) (put : List Cell) (c : Colour) (q : ℕ) → cell_at put q ≡ stone_of (other c)
    → None ≡ stones_without_liberty s put q → is_taken s put c q ≡ false
unfolding is_taken
not_taken_from s put c q enemy is = grind (arith, same_cell-from, ne_eqb, none_without, stone_is)

-- what is no enemy is not taken
pub no_enemy_taken : (s : ℕ) (put : List Cell) (c : Colour) (q : ℕ)
    → same_cell (cell_at put q) (stone_of (other c)) ≡ false → is_taken s put c q ≡ false
unfolding is_taken
no_enemy_taken s put c q f = rw f refl
