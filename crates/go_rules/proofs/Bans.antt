-- The new ban, by the set of what was taken.
use Rattle.std.proofs.Common.{◌≡◌, ℕ, ◌*◌, ◌<◌, ◌≤◌, ◌&&◌, Bool, true, false, eqb, Some, None, List, refl, sym}
use Rattle.std.proofs.Common.{arith, ◌∙◌}
use Rattle.std.proofs.lemmas.Bool.{and_parts, ltb-true, lt-ltb}
use Rattle.std.specs.Ordering.{nat_cmp}
use Rattle.std.specs.FinSet as sets
use Rattle.go_rules.specs.declared.Cell.{Cell}
use Rattle.go_rules.specs.declared.Colour.{Colour}
use Rattle.go_rules.specs.Below.{count_below}
use Rattle.go_rules.specs.Strings.{is_in_string, string_at, liberties}
use Rattle.go_rules.specs.Play.{is_taken, taken_at, ban_after}
use Rattle.go_rules.specs.Position.{other}
use Rattle.go_rules.proofs.Counts.{first_below_is, first_below_none}
use Rattle.go_rules.proofs.Sets.{contains-set_below, len-set_below}

-- whether one stone was taken, by a stone that is alone and has one liberty
abbrev ko_test : ℕ → sets.FinSet nat_cmp → List Cell → ℕ → Bool
ko_test s taken after p =
    eqb (sets.len taken) 1 && eqb (sets.len (string_at s after p)) 1 && eqb (liberties s after p) 1

-- the test by sets is the test by counts
ko_test_is : (s : ℕ) (put after : List Cell) (c : Colour) (p : ℕ) (taken : sets.FinSet nat_cmp)
    → taken ≡ taken_at s put c
    → ko_test s taken after p
    ≡ (eqb (count_below (s * s) (is_taken s put c)) 1 && eqb (count_below (s * s) (is_in_string s after p)) 1
    && eqb (liberties s after p) 1)
unfolding taken_at string_at
ko_test_is s put after c p taken e = grind (arith, len-set_below)

-- where the test fails there is no ban
pub ban_none : (s : ℕ) (put after : List Cell) (c : Colour) (p : ℕ) (taken : sets.FinSet nat_cmp) (b : Bool)
    → taken ≡ taken_at s put c → b ≡ ko_test s taken after p → b ≡ false
    → None ≡ ban_after s put after c p
unfolding ban_after
ban_none s put after c p taken b e is f = rw (sym (is ∙ ko_test_is s put after c p taken e) ∙ f) refl

-- where the test holds the ban is on the first point taken
pub ban_some : (s : ℕ) (put after : List Cell) (c : Colour) (p q : ℕ) (taken : sets.FinSet nat_cmp) (b : Bool)
    → taken ≡ taken_at s put c → b ≡ ko_test s taken after p → b ≡ true
    → sets.contains taken q ≡ true → ((r : ℕ) → 0 ≤ r → r < q → sets.contains taken r ≡ false)
    → Some (q, other c) ≡ ban_after s put after c p
unfolding ban_after taken_at
ban_some s put after c p q taken b e is t has least =
    grind (
      arith,
      contains-set_below (s * s) (is_taken s put c),
      ltb-true q (s * s),
      first_below_is (s * s) (is_taken s put c) q,
      ko_test_is s put after c p taken e,
      and_parts,
      lt-ltb,
    )

-- if nothing was taken there is no ban
pub ban_empty : (s : ℕ) (put after : List Cell) (c : Colour) (p : ℕ) (taken : sets.FinSet nat_cmp) (b : Bool)
    → taken ≡ taken_at s put c → b ≡ ko_test s taken after p → b ≡ true
    → ((r : ℕ) → 0 ≤ r → sets.contains taken r ≡ false) → None ≡ ban_after s put after c p
unfolding ban_after taken_at
ban_empty s put after c p taken b e is t none =
    grind (
      arith,
      contains-set_below (s * s) (is_taken s put c),
      first_below_none (s * s) (is_taken s put c),
      ko_test_is s put after c p taken e,
      lt-ltb,
    )
