-- A flood finds the string.
use Rattle.std.proofs.Common.{◌≡◌, ℕ, ◌+◌, ◌-◌, ◌*◌, ◌<◌, ◌≤◌, ◌&&◌, true, false, cond, eqb, ltb, Some, List, refl}
use Rattle.std.proofs.Common.{sym, ap, subst, arith, inl, inr, ◌⊎◌, ◌∙◌}
use Rattle.std.proofs.lemmas.Bool.{cases_eq, eq-eqb, ne_eqb, eqb-true, or_cases, or_left, or_right}
use Rattle.std.proofs.lemmas.Bool.{both_ways, and_parts, and_from, lt-ltb, false_from_ne_true}
use Rattle.std.specs.Ordering.{nat_cmp}
use Rattle.std.specs.FinSet as sets
use Rattle.go_rules.specs.declared.Cell.{Cell}
use Rattle.go_rules.specs.declared.Cell.TheVariants.{Empty, Black, White}
use Rattle.go_rules.specs.Board.{are_neighbours}
use Rattle.go_rules.specs.Below.{set_below}
use Rattle.go_rules.specs.Strings.{cell_at, same_cell, is_stone, is_in_string, string_at, reached, Path, start, step}
use Rattle.go_rules.proofs.Counts.{count_below_at_most}
use Rattle.go_rules.proofs.Sets.{contains-set_below, contains-insert_nat, same_nat_set, len-set_below}
use Rattle.go_rules.proofs.Paths.{path_on_board, same_cell-true, same_cell-from, IsInString-from_test}
use Rattle.go_rules.proofs.Paths.{is_is_in_string-from_fact}
use Rattle.go_rules.proofs.Tests.{same_tests, and-false}
use Rattle.go_rules.proofs.Links.{path_same}
use Rattle.go_base.specs.Sides.{neighbour_at}
use Rattle.go_base.specs.Floods.{Finds, Gathers}
use Rattle.go_base.specs.Views.{around}
use Rattle.go_base.proofs.Marks.{insert-member, len-insert_new, len-remove_member, contains-remove_nat}
use Rattle.go_base.proofs.SidesOfPoints.{neighbour_at-all, neighbour_at-near}

-- points of the board are no more than it has
pub len_on_board : (s : ℕ) (stones : sets.FinSet nat_cmp) → ((r : ℕ) → sets.contains stones r ≡ true → r < s * s)
    → sets.len stones ≤ s * s
len_on_board s stones on =
    grind (
      arith,
      same_nat_set stones (set_below (s * s) (sets.contains stones)),
      contains-set_below (s * s) (sets.contains stones),
      len-set_below (s * s) (sets.contains stones),
      count_below_at_most (s * s) (sets.contains stones),
    )

-- stones came twice
pub Finds-more : (s : ℕ) (old mid new wait held waits : sets.FinSet nat_cmp) → Finds s old mid wait held
    → Finds s mid new held waits → Finds s old new wait waits
Finds-more s old mid new wait held waits a b = record {
  kept = λ r h. b.kept r (a.kept r h);
  on_board = λ r h. elim (b.on_board r h) [ inl m ↦ a.on_board r m | inr on ↦ inr on ];
  still = λ r h. b.still r (a.still r h);
  fresh = grind arith;
  among = grind arith;
  count = (a.count.0 + b.count.0, omega (arith, a.count, b.count), omega (arith, a.count, b.count));
}

-- and nothing else is
there_only : (old : sets.FinSet nat_cmp) (r : ℕ) {new : sets.FinSet nat_cmp} → new ≡ sets.insert old r
    → (q : ℕ) → sets.contains new q ≡ true → (q ≡ r) ⊎ (sets.contains old q ≡ true)
there_only old r is q h = grind (arith, or_cases, contains-insert_nat, eqb-true)

-- a stone came, unless it was found before
pub Finds-one : (s r : ℕ) (old new wait waits : sets.FinSet nat_cmp) → r < s * s
    → ((q : ℕ) → sets.contains wait q ≡ true → sets.contains old q ≡ true) → new ≡ sets.insert old r
    → waits ≡ cond (sets.contains old r) wait (sets.insert wait r) → Finds s old new wait waits
Finds-one s r old new wait waits on within stones waiting =
    grind (arith, insert-member, contains-insert_nat, len-insert_new)

-- what waits was found, if what waited was
pub Finds-within : (s : ℕ) (old new wait waits : sets.FinSet nat_cmp) → Finds s old new wait waits
    → ((q : ℕ) → sets.contains wait q ≡ true → sets.contains old q ≡ true)
    → (q : ℕ) → sets.contains waits q ≡ true → sets.contains new q ≡ true
Finds-within s old new wait waits h within q w = grind arith

-- the stones that do not wait have their neighbours among the stones
pub record Flooded (s : ℕ) (cells : List Cell) (p : ℕ) (stones wait : sets.FinSet nat_cmp) : Type 0 where
  pub begins : sets.contains stones p ≡ true
  pub only : (r : ℕ) → sets.contains stones r ≡ true → Path s cells p r
  pub closed : (q : ℕ) → sets.contains stones q ≡ true → sets.contains wait q ≡ false → (r : ℕ) → r < s * s
      → are_neighbours s q r ≡ true → cell_at cells r ≡ cell_at cells q → sets.contains stones r ≡ true

-- p alone was found, and waits
pub record Begins (p : ℕ) (stones wait : sets.FinSet nat_cmp) : Type 0 where
  pub stones_are : stones ≡ sets.insert sets.empty p
  pub waiting_are : wait ≡ sets.insert sets.empty p

-- the first stone is added to none, and waits
pub Begins-first : (p : ℕ) (none stones wait waits : sets.FinSet nat_cmp) → none ≡ sets.empty → wait ≡ sets.empty
    → stones ≡ sets.insert none p → waits ≡ cond (sets.contains none p) wait (sets.insert wait p)
    → Begins p stones waits
Begins-first p none stones wait waits e f is waiting = record {
  stones_are = is ∙ ap (λ t. sets.insert t p) e;
  waiting_are = waiting
      ∙ ap (λ b. cond b wait (sets.insert wait p)) (ap (λ t. sets.contains t p) e ∙ sets.contains-empty nat_cmp p)
      ∙ ap (λ t. sets.insert t p) f;
}

-- the first stone is the only one
pub first_only : (p r : ℕ) (found : sets.FinSet nat_cmp) → found ≡ sets.insert sets.empty p
    → sets.contains found r ≡ true → r ≡ p
first_only p r found is h = elim (there_only sets.empty p is r h)
    [ inl e ↦ e | inr none ↦ absurd (both_ways _ (sets.contains-empty nat_cmp r) none) ]

-- the first stone is found
pub first_found : (p : ℕ) (found : sets.FinSet nat_cmp) → found ≡ sets.insert sets.empty p
    → sets.contains found p ≡ true
first_found p found is = grind (arith, contains-insert_nat, or_left, eq-eqb)

-- at first each stone waits
pub none_visited : (p q : ℕ) (stones wait : sets.FinSet nat_cmp) → Begins p stones wait
    → sets.contains stones q ≡ true → sets.contains wait q ≡ false → ⊥
none_visited p q stones wait b h w = grind (arith, both_ways)

-- at first the point alone is found
pub Flooded-start : (s : ℕ) (cells : List Cell) (p : ℕ) (stones wait : sets.FinSet nat_cmp) → Begins p stones wait
    → Flooded s cells p stones wait
Flooded-start s cells p stones wait b = record {
  begins = first_found p stones b.stones_are;
  only = λ r h. subst (λ x. Path s cells p x) (sym (first_only p r stones b.stones_are h)) start;
  closed = λ q h w. absurd (none_visited p q stones wait b h w);
}

-- q waits no longer, and its neighbours were visited: stones came, which wait
pub record Steps (s q : ℕ) (old new wait held waits : sets.FinSet nat_cmp) : Type 0 where
  pub waited : sets.contains old q ≡ true
  pub taken : held ≡ sets.remove wait q
  pub finds : Finds s old new held waits

-- what still waits waited
pub waited_before : (q r : ℕ) (wait held : sets.FinSet nat_cmp) → held ≡ sets.remove wait q
    → sets.contains held r ≡ true → sets.contains wait r ≡ true
waited_before q r wait held taken h = grind (arith, and_parts, contains-remove_nat)

-- with each step fewer points are left to come or to be visited
pub Steps-smaller : (s q most : ℕ) (old new wait held waits : sets.FinSet nat_cmp) → Steps s q old new wait held waits
    → sets.contains wait q ≡ true → ((r : ℕ) → sets.contains new r ≡ true → r < s * s) → s * s ≤ most
    → 2 * (most - sets.len new) + sets.len waits < 2 * (most - sets.len old) + sets.len wait
Steps-smaller s q most old new wait held waits st member on few = grind (arith, len_on_board, len-remove_member)

-- a stone that waits no longer is the one that was visited, or was found before and waited no longer then
pub visited_before : (s q x : ℕ) (old new wait held waits : sets.FinSet nat_cmp) → Steps s q old new wait held waits
    → sets.contains new x ≡ true → sets.contains waits x ≡ false
    → (x ≡ q) ⊎ ((sets.contains old x ≡ true) × (sets.contains wait x ≡ false))
visited_before s q x old new wait held waits h has gone =
    grind (arith, cases_eq, both_ways, false_from_ne_true, contains-remove_nat, ne_eqb)

-- the neighbours of one more stone came
pub Flooded-next : (s : ℕ) (cells : List Cell) (own : Cell) (p q : ℕ) (old new wait held waits : sets.FinSet nat_cmp)
    → p < s * s → Flooded s cells p old wait → Steps s q old new wait held waits → cell_at cells q ≡ own
    → Gathers s cells (λ cell. same_cell cell own) q 4 old new → Flooded s cells p new waits
Flooded-next s cells own p q old new wait held waits on h st like sp =
    let path : Path s cells p q = h.only q st.waited in
    let q_on : q < s * s = path_on_board s cells p on path in
    record {
      begins = st.finds.kept p h.begins;
      only = λ r b. elim (sp.only r b) [
        | inl before ↦ h.only r before
        | inr fresh ↦ step path fresh.0 fresh.1 (same_cell-true _ _ fresh.2 ∙ sym like ∙ path_same s cells p path)
      ];
      closed = λ x has gone r r_on near same. elim (visited_before s q x old new wait held waits st has gone) [
        | inl e ↦ grind (arith, neighbour_at-all s q r q_on r_on, same_cell-from)
        | inr before ↦ st.finds.kept r (h.closed x before.0 before.1 r r_on near same)
      ];
    }

-- if no stone waits, each one that a path leads to was found
pub Flooded-all : (s : ℕ) (cells : List Cell) (p : ℕ) (stones wait : sets.FinSet nat_cmp)
    → Flooded s cells p stones wait → wait ≡ sets.empty → {q : ℕ} → Path s cells p q → sets.contains stones q ≡ true
Flooded-all s cells p stones wait h none start = h.begins
Flooded-all s cells p stones wait h none (step {q} {r} path on near same) =
    h.closed q (Flooded-all s cells p stones wait h none path)
    (ap (λ t. sets.contains t q) none ∙ sets.contains-empty nat_cmp q) r on near
    (same ∙ sym (path_same s cells p path))

-- a point that a path leads to is in the string
pub string_has : (s : ℕ) (cells : List Cell) (r q : ℕ) → r < s * s → is_stone (cell_at cells r) ≡ true
    → Path s cells r q
    → sets.contains (string_at s cells r) q ≡ true
unfolding string_at
string_has s cells r q on stone path =
    grind (arith, contains-set_below, and_from, lt-ltb, path_on_board, is_is_in_string-from_fact)

-- if no stone waits, the stones are the string
pub string_is : (s : ℕ) (cells : List Cell) (p : ℕ) (stones wait : sets.FinSet nat_cmp) → p < s * s
    → is_stone (cell_at cells p) ≡ true → Flooded s cells p stones wait → wait ≡ sets.empty
    → stones ≡ string_at s cells p
unfolding string_at
string_is s cells p stones wait on stone h none =
    same_nat_set _ _ (λ q. same_tests _ _
    (λ b.
    let path = h.only q b in
    and_from _ _ (lt-ltb q (s * s) (path_on_board s cells p on path))
    (is_is_in_string-from_fact s cells p q on (record { stone = stone; path = path })))
    (λ t. Flooded-all s cells p stones wait h none (IsInString-from_test s cells p q (and_parts _ _ t).1).path)
    ∙ sym (contains-set_below (s * s) (is_in_string s cells p) q))

-- an empty point has no string
pub string_is_none : (s : ℕ) (cells : List Cell) (p : ℕ) (stones : sets.FinSet nat_cmp) → cell_at cells p ≡ Empty
    → stones ≡ sets.empty → stones ≡ string_at s cells p
unfolding string_at is_in_string
string_is_none s cells p stones e none =
    none ∙ same_nat_set _ _ (λ q. sets.contains-empty nat_cmp q
    ∙ sym (contains-set_below (s * s) (is_in_string s cells p) q
    ∙ ap (λ k. ltb q (s * s) && (is_stone k && reached s cells p (s * s) q)) e ∙ and-false (ltb q (s * s))))

-- what is not empty is a stone
pub stone_from : (k : Cell) → (k ≡ Empty → ⊥) → is_stone k ≡ true
stone_from Empty h = absurd (h refl)
stone_from Black h = refl
stone_from White h = refl

-- what a side gives is around the point
pub at_side : (s p side q : ℕ) → p < s * s → neighbour_at s p side ≡ Some q → (r : ℕ) → eqb r q ≡ true
    → around s p r ≡ true
at_side s p side q on e r h = grind (arith, neighbour_at-near, eqb-true, and_from, lt-ltb, or_right)

-- stones that are all on the board are on it still
pub on_board_more : (s : ℕ) (old new wait waits : sets.FinSet nat_cmp)
    → ((r : ℕ) → sets.contains old r ≡ true → r < s * s) → Finds s old new wait waits
    → (r : ℕ) → sets.contains new r ≡ true → r < s * s
on_board_more s old new wait waits before more r h = grind arith

-- the first stone is on the board
pub on_board_one : (s p : ℕ) (stones : sets.FinSet nat_cmp) → p < s * s → stones ≡ sets.insert sets.empty p
    → (r : ℕ) → sets.contains stones r ≡ true → r < s * s
on_board_one s p stones on is r h = subst (λ x. x < s * s) (sym (first_only p r stones is h)) on
