-- What the search for Approach finds on a position.
use Rattle.std.proofs.Common.{◌≡◌, ◌∙◌, ℕ, ◌*◌, ◌<◌, ◌≤◌, ◌&&◌, ◌||◌, Bool, true, not, eqb, ltb, List}
use Rattle.std.proofs.Common.{refl, sym, ap, arith, inl, inr}
use Rattle.std.proofs.lemmas.Bool.{or_cases, and_parts, and_from, eqb-true, eq-eqb, ltb-true, lt-ltb, le-leb}
use Rattle.std.specs.Ordering.{nat_cmp}
use Rattle.std.specs.FinSet as sets
use Rattle.go_rules.specs.declared.Cell.{Cell}
use Rattle.go_rules.specs.declared.Cell.TheVariants.{Empty}
use Rattle.go_rules.specs.Below.{any_below, count_below, set_below}
use Rattle.go_rules.specs.Strings.{is_liberty, liberties}
use Rattle.go_rules.proofs.Counts.{any_below_gives, any_below_from, any_below_same, count_below_at_most}
use Rattle.go_rules.proofs.Paths.{IsLiberty-from_test}
use Rattle.go_rules.proofs.Sets.{contains-insert_nat, contains-set_below, len-set_below, same_nat_set}
use Rattle.go_rules.proofs.Tests.{same_tests, or-false}
use Rattle.go_base.specs.Surroundings.{is_only_liberty}
use Rattle.go_base.proofs.Marks.{contains-remove_nat}
use Rattle.wider_rules.specs.Cramped.{foe_of, is_reached, takes_some, is_cramped}
use Rattle.wider_rules.specs.Strings.{holds_next, is_few_liberty}
use Rattle.wider_rules.proofs.StringLemmas.{joined, from_none}

-- no string has more liberties than the board has points
pub all_few : (s : ℕ) (cells : List Cell) (q p : ℕ) → is_few_liberty 0 (s * s) s cells q p ≡ is_liberty s cells q p
unfolding is_few_liberty liberties
all_few s cells q p = grind (arith, from_none, le-leb, count_below_at_most)

-- the liberties of strings with at most as many as the board has points are all of theirs
pub liberties_of_all : (s : ℕ) (cells : List Cell) (points : sets.FinSet nat_cmp) (p : ℕ)
    → any_below (s * s) (λ q. sets.contains points q && is_few_liberty 0 (s * s) s cells q p)
    ≡ any_below (s * s) (λ q. sets.contains points q && is_liberty s cells q p)
liberties_of_all s cells points p = grind (arith, any_below_same, all_few)

-- a set of one point has it alone
has_alone : (none alone : sets.FinSet nat_cmp) (l k : ℕ) → none ≡ sets.empty → alone ≡ sets.insert none l
    → sets.contains alone k ≡ eqb k l
has_alone none alone l k n e =
    ap (λ t. sets.contains t k) e ∙ contains-insert_nat none l k
    ∙ ap (λ t. eqb k l || sets.contains t k) n
    ∙ ap (λ b. eqb k l || b) (sets.contains-empty nat_cmp k)
    ∙ sym (or-false (eqb k l))

-- what holds next to some point of such a set holds next to that point
pub next_to_one : (n l : ℕ) (none alone : sets.FinSet nat_cmp) (test : ℕ → Bool) → l < n → none ≡ sets.empty
    → alone ≡ sets.insert none l → any_below n (λ k. sets.contains alone k && test k) ≡ test l
next_to_one n l none alone test on empty e = same_tests _ _
    (λ h.
    let k = any_below_gives n _ h in
    let parts = and_parts _ _ k.2 in
    let same = eqb-true k.0 l (sym (has_alone none alone l k.0 empty e) ∙ parts.0) in
    sym (ap test same) ∙ parts.1)
    (λ h. any_below_from n _ l on (and_from _ _ (has_alone none alone l l empty e ∙ eq-eqb l l refl) h))

-- where a cell stands next to a point, there the board is
pub holds_on : (s : ℕ) (cells : List Cell) (cell : Cell) (l r : ℕ) → holds_next s cells cell l r ≡ true → r < s * s
unfolding holds_next
holds_on s cells cell l r h = ltb-true r (s * s) (and_parts _ _ (and_parts _ _ h).0).0

-- A stone of a colour that is played at l.
module _ (s : ℕ) (cells : List Cell) (own : Cell) (l : ℕ) where
  -- it reaches the other liberties of its strings next to l, and the empty neighbours
  pub reached_is : (x : ℕ) (friends empties all rest new : sets.FinSet nat_cmp)
      → ((q : ℕ) → sets.contains friends q ≡ holds_next s cells own l q)
      → ((q : ℕ) → sets.contains empties q ≡ holds_next s cells Empty l q)
      → sets.contains all x ≡ any_below (s * s) (λ q. sets.contains friends q && is_liberty s cells q x)
      → rest ≡ sets.remove all l → new ≡ sets.union rest empties
      → sets.contains new x ≡ is_reached s cells own l x
  unfolding is_reached
  reached_is x friends empties all rest new are free its taken e =
      grind (arith, joined rest empties new x e, contains-remove_nat all l x, any_below_same (s * s))

  -- what it reaches is on the board
  reached_on : (x : ℕ) → is_reached s cells own l x ≡ true → x < s * s
  unfolding is_reached
  reached_on x h = elim (or_cases (any_below (s * s) (λ q. holds_next s cells own l q && is_liberty s cells q x)
      && not (eqb x l)) (holds_next s cells Empty l x) h) [
        | inr near ↦ holds_on s cells Empty l x near
        | inl its ↦
            let q = any_below_gives (s * s) _ (and_parts _ _ its).0 in
            (IsLiberty-from_test s cells q.0 x (and_parts _ _ q.2).1).on_board
      ]

  -- the set of what it reaches has as many members as there are such points
  reached_count : (found : sets.FinSet nat_cmp)
      → ((x : ℕ) → sets.contains found x ≡ is_reached s cells own l x)
      → sets.len found ≡ count_below (s * s) (is_reached s cells own l)
  reached_count found is =
      ap sets.len (same_nat_set found (set_below (s * s) (is_reached s cells own l))
      (λ x. is x ∙ same_tests _ _
      (λ h. and_from _ _ (lt-ltb x (s * s) (reached_on x h)) h)
      (λ h. (and_parts (ltb x (s * s)) (is_reached s cells own l x) h).1)
      ∙ sym (contains-set_below (s * s) (is_reached s cells own l) x)))
      ∙ len-set_below (s * s) (is_reached s cells own l)

  -- it takes something where l is the last liberty of a stone of the other colour next to l
  pub takes_is : (x : Bool) (foes : sets.FinSet nat_cmp)
      → ((q : ℕ) → sets.contains foes q ≡ holds_next s cells (foe_of own) l q)
      → x ≡ any_below (s * s) (λ q. sets.contains foes q && is_only_liberty s cells q l)
      → x ≡ takes_some s cells own l
  unfolding takes_some
  takes_is x foes are e = grind (arith, any_below_same)

  -- it is cramped by what it reaches and takes
  pub cramped_is : (n : ℕ) (few takes : Bool) (found : sets.FinSet nat_cmp)
      → ((x : ℕ) → sets.contains found x ≡ is_reached s cells own l x) → n ≡ sets.len found → few ≡ ltb n 2
      → takes ≡ takes_some s cells own l → (few && not takes) ≡ is_cramped s cells own l
  unfolding is_cramped
  cramped_is n few takes found is count room takes_it = grind (arith, reached_count)

-- going over the points of the board finds those that pass
pub found_below : (m n q : ℕ) (test : ℕ → Bool) → m ≤ n
    → any_below n (λ k. eqb q k && (ltb k m && test k)) ≡ (ltb q m && test q)
found_below m n q test all = same_tests _ _
    (λ h.
    let k = any_below_gives n _ h in
    let parts = and_parts _ _ k.2 in
    ap (λ k. ltb k m && test k) (eqb-true q k.0 parts.0) ∙ parts.1)
    (λ h.
    let on = ltb-true q m (and_parts (ltb q m) (test q) h).0 in
    any_below_from n _ q (omega (arith, on, all)) (and_from _ _ (eq-eqb q q refl) h))

-- a stone beside a cramped point of a set is beside a point of the set that is cramped
pub beside_cramped : (n : ℕ) (cramped : sets.FinSet nat_cmp) (test near held : ℕ → Bool)
    → ((l : ℕ) → sets.contains cramped l ≡ (ltb l n && (near l && test l)))
    → any_below n (λ l. sets.contains cramped l && held l) ≡ any_below n (λ l. near l && (test l && held l))
beside_cramped n cramped test near held is = grind (arith, any_below_same, lt-ltb)
