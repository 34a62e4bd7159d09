-- What was gathered at a point says whether a stone is cramped there.
use Rattle.std.proofs.Common.{◌≡◌, ℕ, ◌*◌, ◌<◌, ◌≤◌, ◌&&◌, ◌||◌, Bool, true, false, not, leb, ltb, eqb, List, sym, ap}
use Rattle.std.proofs.Common.{arith, inl, inr, ◌∙◌}
use Rattle.std.proofs.Math.Bool.{and_comm}
use Rattle.std.proofs.lemmas.Bool.{cases_Bool, or_cases, and_parts, and_from, le-leb, lt-ltb, ltb-true}
use Rattle.std.specs.Ordering.{nat_cmp}
use Rattle.std.specs.FinSet as sets
use Rattle.go_rules.specs.declared.Cell.{Cell}
use Rattle.go_rules.specs.declared.Cell.TheVariants.{Empty}
use Rattle.go_rules.specs.Below.{any_below, count_below, set_below}
use Rattle.go_rules.specs.Neighbourhood.{neighbourhood_of}
use Rattle.go_rules.specs.Strings.{is_liberty, liberties}
use Rattle.go_rules.proofs.Counts.{any_below_gives, any_below_same, count_below_at_most}
use Rattle.go_rules.proofs.Paths.{IsLiberty-from_test}
use Rattle.go_rules.proofs.Sets.{same_nat_set, contains-set_below, len-set_below}
use Rattle.go_rules.proofs.Tests.{same_tests}
use Rattle.go_base.specs.Surroundings.{is_only_liberty}
use Rattle.go_base.specs.Views.{alone, neighbours_of}
use Rattle.go_base.proofs.Marks.{contains-remove_nat}
use Rattle.go_base.proofs.PointNeighbourhoods.{alone_self, close_again, close_mono, close_point}
use Rattle.trial_board.specs.Overlays.{neighbourhood_twice}
use Rattle.wider_rules.specs.Cramped.{foe_of, is_reached, takes_some, is_cramped}
use Rattle.wider_rules.specs.Further.{is_beside, is_in_the_way}
use Rattle.wider_rules.specs.FurtherAreas.{second_area, third_area, fourth_area}
use Rattle.wider_rules.specs.Strings.{holds_next, is_few_liberty}
use Rattle.wider_rules.proofs.FurtherLaws.{beside_gives}
use Rattle.wider_rules.proofs.FurtherPlaces.{beside_second, side_close}
use Rattle.wider_rules.proofs.SetLemmas.{next_on}
use Rattle.wider_rules.proofs.StringLemmas.{from_none}

-- a set whose members pass a test, on the board alone, has as many members as points of the board pass
pub counted : (n : ℕ) (found : sets.FinSet nat_cmp) (test : ℕ → Bool) → ((x : ℕ) → sets.contains found x ≡ test x)
    → ((x : ℕ) → test x ≡ true → ltb x n ≡ true) → sets.len found ≡ count_below n test
counted n found test is on =
    ap sets.len (same_nat_set found (set_below n test) (λ x.
    is x
    ∙ same_tests _ _ (λ h. and_from _ _ (on x h) h) (λ h. (and_parts _ _ h).1)
    ∙ sym (contains-set_below n test x)))
    ∙ len-set_below n test

-- A stone of this colour that is played at l.
module _ (s : ℕ) (cells : List Cell) (own : Cell) (l : ℕ) where
  -- a string has at most as many liberties as the board has points
  any_liberty : (all q x : ℕ) → all ≡ s * s → is_few_liberty 0 all s cells q x ≡ is_liberty s cells q x
  unfolding is_few_liberty liberties
  any_liberty all q x e =
      ap (λ b. b && is_liberty s cells q x)
      (from_none all s cells q ∙ ap (leb (liberties s cells q)) e
      ∙ le-leb (liberties s cells q) (s * s) (count_below_at_most (s * s) (is_liberty s cells q)))

  -- the liberties of its strings next to l but for l, and the empty neighbours of l, are what it reaches
  pub reached_is : (all x : ℕ) (friends libs rest : sets.FinSet nat_cmp) (new : Bool) → all ≡ s * s
      → ((q : ℕ) → sets.contains friends q ≡ holds_next s cells own l q)
      → sets.contains libs x ≡ any_below (s * s) (λ q. sets.contains friends q && is_few_liberty 0 all s cells q x)
      → rest ≡ sets.remove libs l → new ≡ (sets.contains rest x || holds_next s cells Empty l x)
      → new ≡ is_reached s cells own l x
  unfolding is_reached
  reached_is all x friends libs rest new e is came gone added =
      added
      ∙ ap (λ b. b || holds_next s cells Empty l x)
      (ap (λ t. sets.contains t x) gone ∙ contains-remove_nat libs l x
      ∙ and_comm (not (eqb x l)) (sets.contains libs x)
      ∙ ap (λ b. b && not (eqb x l))
      (came ∙ any_below_same (s * s) _ _ (λ q on. ap (λ b. b && is_few_liberty 0 all s cells q x) (is q)
      ∙ ap (λ b. holds_next s cells own l q && b) (any_liberty all q x e))))

  -- what it reaches is on the board
  reached_on : (x : ℕ) → is_reached s cells own l x ≡ true → ltb x (s * s) ≡ true
  unfolding is_reached
  reached_on x h = elim (or_cases _ _ h) [
    | inr side ↦ next_on s cells Empty l x side
    | inl string ↦
        let q = any_below_gives (s * s) _ (and_parts _ _ string).0 in
        lt-ltb x (s * s) (IsLiberty-from_test s cells q.0 x (and_parts _ _ q.2).1).on_board
  ]

  -- so many points were counted
  reached_counted : (found : sets.FinSet nat_cmp) (n : ℕ)
      → ((x : ℕ) → sets.contains found x ≡ is_reached s cells own l x) → n ≡ sets.len found
      → n ≡ count_below (s * s) (is_reached s cells own l)
  reached_counted found n is count = count ∙ counted (s * s) found (is_reached s cells own l) is reached_on

  -- more than one: it is not cramped
  pub not_cramped : (found : sets.FinSet nat_cmp) (n : ℕ)
      → ((x : ℕ) → sets.contains found x ≡ is_reached s cells own l x) → n ≡ sets.len found → 1 < n
      → false ≡ is_cramped s cells own l
  unfolding is_cramped
  not_cramped found n is count more =
      let same = reached_counted found n is count in
      sym (ap (λ k. ltb k 2 && not (takes_some s cells own l)) (sym same)
      ∙ ap (λ b. b && not (takes_some s cells own l)) (many n more))
    where
      many : (k : ℕ) → 1 < k → ltb k 2 ≡ false
      many k more = elim (cases_Bool (ltb k 2)) [
        | inl h ↦ absurd (let few = ltb-true k 2 h in omega (arith, few, more))
        | inr f ↦ f
      ]

  -- at most one: it is cramped if it takes nothing
  pub cramped_is : (found : sets.FinSet nat_cmp) (n : ℕ) (takes : Bool)
      → ((x : ℕ) → sets.contains found x ≡ is_reached s cells own l x) → n ≡ sets.len found → n ≤ 1
      → takes ≡ takes_some s cells own l → not takes ≡ is_cramped s cells own l
  unfolding is_cramped
  cramped_is found n takes is count few e =
      let same = reached_counted found n is count in
      ap not e
      ∙ sym (ap (λ k. ltb k 2 && not (takes_some s cells own l)) (sym same)
      ∙ ap (λ b. b && not (takes_some s cells own l)) (lt-ltb n 2 (omega (arith, few))))

  -- the strings of the other colour next to l whose one liberty is l are taken
  pub takes_is : (foe : Cell) (foes : sets.FinSet nat_cmp) (found : Bool) → foe ≡ foe_of own
      → ((q : ℕ) → sets.contains foes q ≡ holds_next s cells foe l q)
      → found ≡ any_below (s * s) (λ q. sets.contains foes q && is_only_liberty s cells q l)
      → found ≡ takes_some s cells own l
  unfolding takes_some
  takes_is foe foes found e is came = came ∙ any_below_same (s * s) _ _ (λ q on.
      ap (λ b. b && is_only_liberty s cells q l) (is q ∙ ap (λ c. holds_next s cells c l q) e))

-- where a stone is cramped, the stones of the other colour next to its point came
pub cramped_adds : (s : ℕ) (cells : List Cell) (own : Cell) (l : ℕ) (foe : Cell) (r : ℕ) (old new : Bool)
    → foe ≡ foe_of own → is_cramped s cells own l ≡ true → new ≡ (old || holds_next s cells foe l r)
    → new ≡ (old || (is_cramped s cells own l && holds_next s cells (foe_of own) l r))
cramped_adds s cells own l foe r old new e cramped came = grind arith

-- what is near a point of a set is in the neighbourhood of the neighbourhood of the set
pub near_twice : (s : ℕ) (cells : List Cell) (S : ℕ → Bool) (l : ℕ) → S l ≡ true → (r : ℕ)
    → neighbourhood_twice s cells l r ≡ true → neighbourhood_of s cells (neighbourhood_of s cells S) r ≡ true
near_twice s cells S l here r h =
    close_mono s cells (neighbourhood_of s cells (alone l)) (neighbourhood_of s cells S) (close_point s cells S l here) r h

-- what is next to l, and what is looked at around the strings there, is near l
module _ (s : ℕ) (cells : List Cell) (l : ℕ) (on : l < s * s) where
  -- a neighbour is in the neighbourhood of l
  next_close : (cell : Cell) (q : ℕ) → holds_next s cells cell l q ≡ true
      → neighbourhood_of s cells (alone l) q ≡ true
  unfolding holds_next
  next_close cell q h =
      let both = and_parts _ _ h in
      side_close s cells (alone l) l q on (alone_self l) (ltb-true q (s * s) (and_parts _ _ both.0).0) both.1

  -- the neighbours of l are near
  pub neighbours_near : (r : ℕ) → neighbours_of s l r ≡ true → neighbourhood_twice s cells l r ≡ true
  neighbours_near r h =
      let near = and_parts _ _ h in
      close_again s cells (alone l) r
      (side_close s cells (alone l) l r on (alone_self l) (ltb-true r (s * s) near.0) near.1)

  -- and so is what is looked at around the strings that stand there
  pub strings_near : (cell : Cell) (found : sets.FinSet nat_cmp) (r : ℕ)
      → ((q : ℕ) → sets.contains found q ≡ holds_next s cells cell l q)
      → neighbourhood_of s cells (sets.contains found) r ≡ true → neighbourhood_twice s cells l r ≡ true
  strings_near cell found r is h = close_mono s cells (sets.contains found) (neighbourhood_of s cells (alone l))
      (λ q i. next_close cell q (sym (is q) ∙ i)) r h

-- Where the search for the strings in the way looks.
module _ (s : ℕ) (cells : List Cell) (target : ℕ) (on : target < s * s) where
  -- a point of Beside is in the second area
  beside_in : (l : ℕ) → is_beside 2 s cells target l ≡ true → second_area s cells target l ≡ true
  beside_in l h =
      let q = beside_gives s cells target 2 l h in
      beside_second s cells target on 2 q.0 l q.1 q.2

  -- so what is near it is in the fourth
  pub beside_fourth : (beside : sets.FinSet nat_cmp) (r : ℕ)
      → ((l : ℕ) → sets.contains beside l ≡ is_beside 2 s cells target l)
      → neighbourhood_of s cells (neighbourhood_of s cells (sets.contains beside)) r ≡ true
      → fourth_area s cells target r ≡ true
  beside_fourth beside r is h =
      close_mono s cells (neighbourhood_of s cells (sets.contains beside)) (third_area s cells target)
      (close_mono s cells (sets.contains beside) (second_area s cells target)
      (λ l i. beside_in l (sym (is l) ∙ i))) r h

  -- a stone in the way is in the third
  way_third : (r : ℕ) → is_in_the_way s cells target r ≡ true → third_area s cells target r ≡ true
  unfolding is_in_the_way holds_next
  way_third r h =
      let l = any_below_gives (s * s) _ h in
      let parts = and_parts _ _ l.2 in
      let next = and_parts _ _ (and_parts _ _ parts.1).1 in
      side_close s cells (second_area s cells target) l.0 r l.1 (beside_in l.0 parts.0)
      (ltb-true r (s * s) (and_parts _ _ next.0).0) next.1

  -- so what is looked at around such strings is in the fourth
  pub way_fourth : (found : sets.FinSet nat_cmp) (r : ℕ)
      → ((q : ℕ) → sets.contains found q ≡ (ltb q (s * s) && is_in_the_way s cells target q))
      → neighbourhood_of s cells (sets.contains found) r ≡ true → fourth_area s cells target r ≡ true
  way_fourth found r is h = close_mono s cells (sets.contains found) (third_area s cells target)
      (λ q i. way_third q (and_parts _ _ (sym (is q) ∙ i)).1) r h
