-- What the search for further candidates finds here, in the words of the one on a trial board, whose lemmas it cites.
use Rattle.std.proofs.Common.{◌≡◌, ◌∙◌, ℕ, ◌*◌, ◌&&◌, ◌||◌, Bool, true, false, ltb, List, refl, sym, ap, arith}
use Rattle.std.proofs.lemmas.Bool.{and_parts, and_from, eqb-true, eq-eqb, leb-true, le-leb}
use Rattle.std.specs.Ordering.{nat_cmp}
use Rattle.std.specs.FinSet as sets
use Rattle.go_rules.specs.declared.Cell.{Cell}
use Rattle.go_rules.specs.Below.{any_below}
use Rattle.go_rules.specs.Board.{are_neighbours}
use Rattle.go_rules.specs.Strings.{cell_at, same_cell}
use Rattle.go_rules.proofs.Counts.{any_below_false, any_below_same}
use Rattle.go_rules.proofs.Tests.{same_tests, and-false, or-false, or_comm}
use Rattle.go_base.specs.Surroundings.{is_only_liberty}
use Rattle.wider_rules.specs.Further.{is_net, is_beside, is_rescue, is_join, is_cut, is_cover, is_approach}
use Rattle.wider_rules.specs.Further.{is_further_always, is_further_wide, is_further}
use Rattle.wider_rules.specs.Strings.{holds_next, is_few_liberty}
use Rattle.read_proof.specs.Beside.{stands_beside}

-- a test of the point alone may stand before a test of some number, or in it
any_outer : (n : ℕ) (on : Bool) (a b : ℕ → Bool)
    → (on && any_below n (λ q. a q && b q)) ≡ any_below n (λ q. a q && (on && b q))
any_outer n true a b = refl
any_outer n false a b = sym (any_below_false n _ (λ q _. and-false (a q)))

-- a cell stands beside a set where it stands next to a point of the set
pub beside_next : (s : ℕ) (cells : List Cell) (cell : Cell) (S : ℕ → Bool) (p : ℕ)
    → stands_beside s cells cell S p ≡ any_below (s * s) (λ l. S l && holds_next s cells cell l p)
unfolding stands_beside holds_next
beside_next s cells cell S p =
    any_outer (s * s) (ltb p (s * s) && same_cell (cell_at cells p) cell) S (λ l. are_neighbours s l p)

-- a string with at least one liberty and at most one has one
only_between : (s : ℕ) (cells : List Cell) (r p : ℕ) → is_few_liberty 1 1 s cells r p ≡ is_only_liberty s cells r p
unfolding is_few_liberty is_only_liberty
only_between s cells r p = grind (arith, same_tests, and_parts, leb-true, eq-eqb, eqb-true, and_from, le-leb)

-- the liberties of strings with just one are their last liberties
pub lasts : (s : ℕ) (cells : List Cell) (points : sets.FinSet nat_cmp) (p : ℕ)
    → any_below (s * s) (λ r. sets.contains points r && is_few_liberty 1 1 s cells r p)
    ≡ any_below (s * s) (λ r. sets.contains points r && is_only_liberty s cells r p)
lasts s cells points p = grind (arith, any_below_same, only_between)

-- two tests joined are two others if each is
either : {a b x y : Bool} → a ≡ x → b ≡ y → (a || b) ≡ (x || y)
either {a} {b} {x} {y} e f = ap (λ z. z || b) e ∙ ap (λ z. x || z) f

-- The further candidates by their sets.
module _ (s : ℕ) (cells : List Cell) (target p : ℕ) where
  -- the attacker's of every ply are Rescue and Beside
  pub attacker_always : (turn rescue beside : Bool) → turn ≡ true → rescue ≡ is_rescue s cells target p
      → beside ≡ is_beside 2 s cells target p
      → (rescue || beside) ≡ is_further_always turn s cells target p
  unfolding is_further_always
  attacker_always true rescue beside t e f = either e f ∙ or_comm (is_rescue s cells target p) _
  attacker_always false rescue beside t e f = absurd (let w = t in cc)

  -- the defender's are Save and Cut
  pub defender_always : (turn save cut : Bool) → turn ≡ false → save ≡ is_rescue s cells target p
      → cut ≡ is_cut s cells target p
      → (save || cut) ≡ is_further_always turn s cells target p
  unfolding is_further_always
  defender_always true save cut t e f = absurd (let w = t in cc)
  defender_always false save cut t e f = either e f

  -- the attacker's of a wide ply alone are Net and Link
  pub attacker_wide : (turn net link : Bool) → turn ≡ true → net ≡ is_net s cells target p
      → link ≡ is_join 2 s cells target p
      → (net || link) ≡ is_further_wide turn s cells target p
  unfolding is_further_wide
  attacker_wide true net link t e f = either e f
  attacker_wide false net link t e f = absurd (let w = t in cc)

  -- the defender's are Beside, Join, Cover and Approach
  pub defender_wide : (turn beside join cover near : Bool) → turn ≡ false → beside ≡ is_beside 4 s cells target p
      → join ≡ is_join 4 s cells target p → cover ≡ is_cover s cells target p → near ≡ is_approach s cells target p
      → (((beside || join) || cover) || near) ≡ is_further_wide turn s cells target p
  unfolding is_further_wide
  defender_wide true beside join cover near t e f g h = absurd (let w = t in cc)
  defender_wide false beside join cover near t e f g h = either (either (either e f) g) h

  -- the further candidates are those of every ply and, with a wide ply, those of one alone
  pub further_with_wide : (wide turn always alone : Bool) → wide ≡ true
      → always ≡ is_further_always turn s cells target p → alone ≡ is_further_wide turn s cells target p
      → (always || alone) ≡ is_further wide turn s cells target p
  unfolding is_further
  further_with_wide true turn always alone t e f = either e f
  further_with_wide false turn always alone t e f = absurd (let w = t in cc)

  -- without one they are those of every ply
  pub further_without : (wide turn always : Bool) → wide ≡ false → always ≡ is_further_always turn s cells target p
      → always ≡ is_further wide turn s cells target p
  unfolding is_further
  further_without true turn always t e = absurd (let w = t in cc)
  further_without false turn always t e = e ∙ or-false (is_further_always turn s cells target p)
