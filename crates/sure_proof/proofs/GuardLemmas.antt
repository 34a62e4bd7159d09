-- What a zone asks for and what guards it, and the walk over the zone that gathers both.
use Rattle.std.proofs.Common.{◌≡◌, ◌≢◌, ◌∙◌, ◌⊎◌, ℕ, zero, suc, ◌+◌, ◌*◌, ◌<◌, ◌≤◌, ◌&&◌, Bool, true, false, cond, not}
use Rattle.std.proofs.Common.{List, Option, Some, None, refl, sym, ap, subst, inl, inr, arith, ltb}
use Rattle.std.specs.Cmp.{nat_cmp_total}
use Rattle.std.specs.Ordering.{nat_cmp}
use Rattle.std.specs.FinSet as sets
use Rattle.std.proofs.lemmas.Bool.{cases_Bool, cases_eq, cases_lt, both_ways, or_cases, and_parts, and_from, eqb-true}
use Rattle.go_rules.specs.declared.Cell.{Cell}
use Rattle.go_rules.specs.declared.Cell.TheVariants.{Empty}
use Rattle.go_rules.specs.declared.Colour.{Colour}
use Rattle.go_rules.specs.BesideStrings.{is_enemy, is_beside_string}
use Rattle.go_rules.specs.Position.{stone_of}
use Rattle.go_rules.specs.Rules.{IsOnlyLiberty}
use Rattle.go_rules.specs.Strings.{cell_at, is_stone, same_cell, is_liberty, is_in_string, string_at, liberty_points}
use Rattle.go_rules.specs.Strings.{IsInString, IsLiberty}
use Rattle.go_rules.proofs.Counts.{any_below_same}
use Rattle.go_rules.proofs.InWords.{string_itself, string_back_in_words, string_onward}
use Rattle.go_rules.proofs.Links.{liberty_moves, path_same}
use Rattle.go_rules.proofs.OnlyLiberties.{stone_not_empty}
use Rattle.go_rules.proofs.Paths.{path_on_board, is_is_in_string-from_fact, IsInString-from_test, is_liberty-from_fact}
use Rattle.go_rules.proofs.Paths.{IsLiberty-from_test, same_cell-true, same_cell-from}
use Rattle.go_rules.proofs.Plays.{stone_is}
use Rattle.go_rules.proofs.Sets.{contains-set_below, contains-insert_nat, same_nat_set}
use Rattle.go_base.specs.Floods.{enemy_points}
use Rattle.sure_proof.specs.Rests.{Points, union_below, two_within, shown_by, shows_atari}
use Rattle.sure_proof.specs.Rests.{guard_at, guard_of, asked_at, asked_of, last_of}
use Rattle.sure_proof.specs.Gathered.{IsWithin, IsServed, IsGathered}
use Rattle.sure_proof.proofs.ShownLemmas.{insert_self, insert_more, union_first, union_second, union_all, below_in}
use Rattle.sure_proof.proofs.ShownLemmas.{IsShown, has_two, all_same, SameOn, shown, two_within_give, liberty_in}
use Rattle.sure_proof.proofs.RestLemmas.{shows_is}

-- two tests that follow from one another are the same
same_by : (a b : Bool) → (a ≡ true → b ≡ true) → (b ≡ true → a ≡ true) → a ≡ b
same_by true b there back = sym (there refl)
same_by false true there back = absurd (let wrong = back refl in cc)
same_by false false there back = refl

-- a member of two joined sets is a member of one of them
pub in_union : (S T : Points) (q : ℕ) → sets.contains (sets.union S T) q ≡ true
    → (sets.contains S q ≡ true) ⊎ (sets.contains T q ≡ true)
in_union S T q h =
    or_cases (sets.contains S q) (sets.contains T q) (sym (sets.contains-union nat_cmp_total S T q) ∙ h)

-- a member of a set to which p came is p or was a member before
pub in_insert : (S : Points) (p q : ℕ) → sets.contains (sets.insert S p) q ≡ true
    → (q ≡ p) ⊎ (sets.contains S q ≡ true)
in_insert S p q h = grind (arith, or_cases, contains-insert_nat, eqb-true)

-- the empty set has no member
pub in_empty : {A : Type 0} (q : ℕ) → sets.contains (sets.empty {R = nat_cmp}) q ≡ true → A
in_empty q h = absurd (both_ways (sets.contains (sets.empty {R = nat_cmp}) q) (sets.contains-empty nat_cmp q) h)

-- a member of all of many sets is one of one of them
pub in_union_below : (n : ℕ) (each : ℕ → Points) (p : ℕ) → sets.contains (union_below n each) p ≡ true
    → (k : ℕ) × (k < n) × (sets.contains (each k) p ≡ true)
in_union_below zero each p h = in_empty p h
in_union_below (suc n) each p h = grind (arith, in_union (union_below n each) (each n) p h, in_union_below n each p)

-- What the point q of Z asks for and what guards it.
module _ (s : ℕ) (cells : List Cell) (c : Colour) (Z : Points) (q : ℕ) where
  -- it asks for itself if it is empty, and for the last liberties of its string if it is a stone of c
  pub asked_cases : (p : ℕ) → sets.contains (asked_at s cells c Z q) p ≡ true
      → ((sets.contains Z q ≡ true) × (cell_at cells q ≡ Empty) × (p ≡ q))
      ⊎ ((sets.contains Z q ≡ true) × (cell_at cells q ≡ stone_of c)
      × (sets.contains (last_of (liberty_points s cells q) (two_within Z (liberty_points s cells q))) p ≡ true))
  asked_cases p h = by (sets.contains Z q && same_cell (cell_at cells q) Empty)
      (sets.contains Z q && same_cell (cell_at cells q) (stone_of c)) refl refl h
    where
      by : (empty own : Bool) → (sets.contains Z q && same_cell (cell_at cells q) Empty) ≡ empty
          → (sets.contains Z q && same_cell (cell_at cells q) (stone_of c)) ≡ own
          → sets.contains (cond empty (sets.insert sets.empty q) (cond own
          (last_of (liberty_points s cells q) (two_within Z (liberty_points s cells q))) sets.empty)) p ≡ true
          → ((sets.contains Z q ≡ true) × (cell_at cells q ≡ Empty) × (p ≡ q))
          ⊎ ((sets.contains Z q ≡ true) × (cell_at cells q ≡ stone_of c)
          × (sets.contains (last_of (liberty_points s cells q) (two_within Z (liberty_points s cells q))) p ≡ true))
      by true own e f h =
          let parts = and_parts (sets.contains Z q) (same_cell (cell_at cells q) Empty) e in
          elim (in_insert sets.empty q p h) [
            | inl same ↦ inl (parts.0, same_cell-true (cell_at cells q) Empty parts.1, same)
            | inr none ↦ in_empty p none
          ]
      by false true e f h =
          let parts = and_parts (sets.contains Z q) (same_cell (cell_at cells q) (stone_of c)) f in
          inr (parts.0, same_cell-true (cell_at cells q) (stone_of c) parts.1, h)
      by false false e f h = in_empty p h

  -- it is guarded if it is a stone of c
  pub guard_cases : (p : ℕ) → sets.contains (guard_at s cells c Z q) p ≡ true
      → (sets.contains Z q ≡ true) × (cell_at cells q ≡ stone_of c) × (sets.contains (shows_atari s cells Z q) p ≡ true)
  guard_cases p h = by (sets.contains Z q && same_cell (cell_at cells q) (stone_of c)) refl h
    where
      by : (own : Bool) → (sets.contains Z q && same_cell (cell_at cells q) (stone_of c)) ≡ own
          → sets.contains (cond own (shows_atari s cells Z q) sets.empty) p ≡ true
          → (sets.contains Z q ≡ true) × (cell_at cells q ≡ stone_of c)
          × (sets.contains (shows_atari s cells Z q) p ≡ true)
      by true e h =
          let parts = and_parts (sets.contains Z q) (same_cell (cell_at cells q) (stone_of c)) e in
          (parts.0, same_cell-true (cell_at cells q) (stone_of c) parts.1, h)
      by false e h = in_empty p h

  module _ (on : q < s * s) (inside : sets.contains Z q ≡ true) where
    -- an empty point is asked for
    pub asks_empty : cell_at cells q ≡ Empty → sets.contains (asked_of s cells c Z) q ≡ true
    unfolding asked_of
    asks_empty empty = union_all q (s * s) (asked_at s cells c Z) q on
        (ap (λ v. sets.contains (cond v (sets.insert sets.empty q)
        (cond (sets.contains Z q && same_cell (cell_at cells q) (stone_of c))
        (last_of (liberty_points s cells q) (two_within Z (liberty_points s cells q))) sets.empty)) q)
        (and_from (sets.contains Z q) (same_cell (cell_at cells q) Empty) inside
        (same_cell-from (cell_at cells q) Empty empty))
        ∙ insert_self q sets.empty)

    -- what shows whether the string of a stone of c is in atari guards it
    pub guards : cell_at cells q ≡ stone_of c → IsWithin (shows_atari s cells Z q) (guard_of s cells c Z)
    unfolding guard_of
    guards stone r shows = union_all r (s * s) (guard_at s cells c Z) q on
        (ap (λ v. sets.contains (cond v (shows_atari s cells Z q) sets.empty) r)
        (and_from (sets.contains Z q) (same_cell (cell_at cells q) (stone_of c)) inside
        (same_cell-from (cell_at cells q) (stone_of c) stone)) ∙ shows)

    -- the last liberties of its string are asked for
    pub asks_last : cell_at cells q ≡ stone_of c
        → IsWithin (last_of (liberty_points s cells q) (two_within Z (liberty_points s cells q))) (asked_of s cells c Z)
    unfolding asked_of
    asks_last stone p last = union_all p (s * s) (asked_at s cells c Z) q on
        (ap (λ v. sets.contains (cond v (sets.insert sets.empty q)
        (cond (sets.contains Z q && same_cell (cell_at cells q) (stone_of c))
        (last_of (liberty_points s cells q) (two_within Z (liberty_points s cells q))) sets.empty)) p) not_empty
        ∙ ap (λ v. sets.contains (cond v (last_of (liberty_points s cells q)
        (two_within Z (liberty_points s cells q))) sets.empty) p)
        (and_from (sets.contains Z q) (same_cell (cell_at cells q) (stone_of c)) inside
        (same_cell-from (cell_at cells q) (stone_of c) stone)) ∙ last)
      where
        not_empty : (sets.contains Z q && same_cell (cell_at cells q) Empty) ≡ false
        not_empty = grind (arith, cases_Bool, stone_not_empty, same_cell-true, and_parts)

-- a liberty is among those of the string
its_liberty : (s : ℕ) (cells : List Cell) (q l : ℕ) → q < s * s → IsLiberty s cells q l
    → sets.contains (liberty_points s cells q) l ≡ true
unfolding liberty_points
its_liberty s cells q l on lib = grind (arith, below_in, is_liberty-from_fact)

-- the only liberty of a string, on two boards that show the same of it, is the last one that it has here
last_shown : (s : ℕ) (a b : List Cell) (Z : Points) (q p : ℕ) → q < s * s → IsShown s a b q → IsOnlyLiberty s b q p
    → sets.contains (last_of (liberty_points s a q) (two_within Z (liberty_points s a q))) p ≡ true
last_shown s a b Z q p on (has_two l k lk la ka lb kb) one = absurd (lk (one.only l lb ∙ sym (one.only k kb)))
last_shown s a b Z q p on (all_same sa sb la lb) one = by (two_within Z (liberty_points s a q)) refl
  where
    by : (o : Option (ℕ × ℕ)) → two_within Z (liberty_points s a q) ≡ o
        → sets.contains (last_of (liberty_points s a q) o) p ≡ true
    by None is = its_liberty s a q p on (lb p one.its)
    by (Some w) is =
        grind (arith, two_within_give Z (liberty_points s a q) w.0 w.1 is, liberty_in s a q w.0, liberty_in s a q w.1)

-- on a board that agrees on Z and on what guards it, the only liberty of a string of c with a stone in Z is asked for
pub last_is_asked : (s : ℕ) (a b : List Cell) (c : Colour) (Z : Points) → SameOn Z a b → SameOn (guard_of s a c Z) a b
    → (q p : ℕ) → q < s * s → sets.contains Z q ≡ true → cell_at b q ≡ stone_of c → IsOnlyLiberty s b q p
    → sets.contains (asked_of s a c Z) p ≡ true
last_is_asked s a b c Z same guarded q p on inside stone only =
    let mine : cell_at a q ≡ stone_of c = same q inside ∙ stone in
    let look = shown s a b Z q on (ap is_stone mine ∙ stone_is c)
    (λ r shows. guarded r (guards s a c Z q on inside mine r shows)) in
    asks_last s a c Z q on inside mine p (last_shown s a b Z q p on look only)

-- Two stones of one string.
module _ (s : ℕ) (cells : List Cell) (q x : ℕ) (on : q < s * s) (inside : IsInString s cells q x) where
  -- they are of the same colour
  its_cell : cell_at cells x ≡ cell_at cells q
  its_cell = path_same s cells q inside.path

  -- the other is on the board
  its_on : x < s * s
  its_on = path_on_board s cells q on inside.path

  -- and has the first in its string
  its_back : IsInString s cells x q
  its_back = string_back_in_words s cells q x on inside

  -- their strings have the same stones
  same_stone : (y : ℕ) → is_in_string s cells x y ≡ is_in_string s cells q y
  same_stone y = same_by (is_in_string s cells x y) (is_in_string s cells q y)
      (λ t. is_is_in_string-from_fact s cells q y on
      (string_onward s cells q x y inside (IsInString-from_test s cells x y t)))
      (λ t. is_is_in_string-from_fact s cells x y its_on
      (string_onward s cells x q y its_back (IsInString-from_test s cells q y t)))

  -- the same liberties
  same_liberty : (l : ℕ) → is_liberty s cells x l ≡ is_liberty s cells q l
  same_liberty l = same_by (is_liberty s cells x l) (is_liberty s cells q l)
      (λ t. is_liberty-from_fact s cells q l on
      (liberty_moves s cells q x l on inside (IsLiberty-from_test s cells x l t)))
      (λ t. is_liberty-from_fact s cells x l its_on
      (liberty_moves s cells x q l its_on its_back (IsLiberty-from_test s cells q l t)))

  -- and the same enemies
  same_enemy : (y : ℕ) → (is_beside_string s cells x y && is_enemy (cell_at cells x) (cell_at cells y))
      ≡ (is_beside_string s cells q y && is_enemy (cell_at cells q) (cell_at cells y))
  unfolding is_beside_string
  same_enemy y = grind (arith, any_below_same, same_stone, its_cell)

  -- so the sets are the same
  stones_same : string_at s cells x ≡ string_at s cells q
  unfolding string_at
  stones_same = grind (arith, same_nat_set, contains-set_below, same_stone)

  pub liberties_same_set : liberty_points s cells x ≡ liberty_points s cells q
  unfolding liberty_points
  liberties_same_set = grind (arith, same_nat_set, contains-set_below, same_liberty)

  enemies_same : enemy_points s cells x ≡ enemy_points s cells q
  enemies_same = grind (arith, same_nat_set, contains-set_below, same_enemy)

  -- a stone is among what shows its string
  stone_shown : (stones liberties enemies : Points) (o : Option (ℕ × ℕ)) → sets.contains stones x ≡ true
      → sets.contains (shown_by stones liberties enemies o) x ≡ true
  stone_shown stones liberties enemies None h = grind (arith, union_first)
  stone_shown stones liberties enemies (Some w) h = grind (arith, insert_more)

  -- what shows whether the string of the one is in atari is what shows the string of the other
  pub shows_same : (Z : Points) → IsWithin (shows_atari s cells Z x) (shown_by (string_at s cells q)
      (liberty_points s cells q) (enemy_points s cells q) (two_within Z (liberty_points s cells q)))
  unfolding string_at
  shows_same Z p h =
      let whole : Points = shown_by (string_at s cells q) (liberty_points s cells q) (enemy_points s cells q)
      (two_within Z (liberty_points s cells q)) in
      elim (in_insert (shown_by (string_at s cells x) (liberty_points s cells x) (enemy_points s cells x)
      (two_within Z (liberty_points s cells x))) x p
      (sym (ap (λ (S : Points). sets.contains S p) (shows_is s cells Z x)) ∙ h)) [
        | inl is ↦ subst (λ v. sets.contains whole v ≡ true) (sym is)
            (stone_shown (string_at s cells q) (liberty_points s cells q) (enemy_points s cells q)
            (two_within Z (liberty_points s cells q))
            (below_in (s * s) (is_in_string s cells q) x its_on (is_is_in_string-from_fact s cells q x on inside)))
        | inr old ↦
            ap (λ (S : Points). sets.contains (shown_by (string_at s cells q) (liberty_points s cells q) S
            (two_within Z (liberty_points s cells q))) p) (sym enemies_same)
            ∙ ap (λ (S : Points). sets.contains (shown_by (string_at s cells q) S (enemy_points s cells x)
            (two_within Z S)) p) (sym liberties_same_set)
            ∙ ap (λ (S : Points). sets.contains (shown_by S (liberty_points s cells x) (enemy_points s cells x)
            (two_within Z (liberty_points s cells x))) p) (sym stones_same)
            ∙ old
      ]

-- sets that are the same are gathered as well
pub gathered_same : {s : ℕ} {cells : List Cell} {c : Colour} {Z : Points} {from : ℕ} {A G S B H T : Points} → B ≡ A
    → H ≡ G → T ≡ S → IsGathered s cells c Z from A G S → IsGathered s cells c Z from B H T
gathered_same {s} {cells} {c} {Z} {from} {A} {G} {S} {B} {H} {T} a g k gathered = grind arith

-- A walk over the points of Z.
module _ (s : ℕ) (cells : List Cell) (c : Colour) (Z : Points) where
  -- at its beginning it has gathered nothing
  pub gather_none : IsGathered s cells c Z 0 sets.empty sets.empty sets.empty
  gather_none = record {
    asked_right = λ p h. in_empty p h;
    guard_right = λ p h. in_empty p h;
    visited = λ q low on inside. absurd (omega (arith, low));
    of_searched = λ q h. in_empty q h;
  }

  -- what serves a point still does if more comes
  still_served : (A G B H : Points) (q : ℕ) → IsWithin A B → IsWithin G H → IsServed s cells c Z A G q
      → IsServed s cells c Z B H q
  still_served A G B H q ab gh served = grind (arith, guards)

  -- What it has gathered, and the next point of Z.
  module _ (from : ℕ) (A G S : Points) (before : IsGathered s cells c Z from A G S) (q : ℕ)
      (between : (r : ℕ) → from ≤ r → r < q → sets.contains Z r ≡ false) where
    -- a step that serves the point
    step_served : (B H T : Points) → IsWithin A B → IsWithin G H → IsWithin B (asked_of s cells c Z)
        → IsWithin H (guard_of s cells c Z) → (q < s * s → IsServed s cells c Z B H q)
        → ((x : ℕ) → sets.contains T x ≡ true → (sets.contains S x ≡ true) ⊎ IsServed s cells c Z B H x)
        → IsGathered s cells c Z (q + 1) B H T
    step_served B H T ab gh b_right h_right this searched = record {
      asked_right = b_right;
      guard_right = h_right;
      visited = λ r low on inside. elim (cases_eq r q) [
        | inl same ↦ subst (IsServed s cells c Z B H) (sym same) (this (subst (λ v. v < s * s) same on))
        | inr ne ↦ elim (cases_lt r from) [
          | inl less ↦ still_served A G B H r ab gh (before.visited r less on inside)
          | inr more ↦ absurd (both_ways (sets.contains Z r) (between r more (omega (arith, low, ne))) inside)
        ]
      ];
      of_searched = λ x h. elim (searched x h) [
        | inl old ↦ still_served A G B H x ab gh (before.of_searched x old)
        | inr new ↦ new
      ];
    }

    -- a point that asks for nothing new
    pub step_idle : (q < s * s → IsServed s cells c Z A G q) → IsGathered s cells c Z (q + 1) A G S
    step_idle this = step_served A G S (λ p h. h) (λ p h. h) before.asked_right before.guard_right this (λ x h. inl h)

    -- a point beyond the board
    pub step_off : s * s ≤ q → IsGathered s cells c Z (q + 1) A G S
    step_off off = step_idle (λ on. absurd (omega (arith, off, on)))

    -- a point whose string was searched
    pub step_searched : sets.contains S q ≡ true → IsGathered s cells c Z (q + 1) A G S
    step_searched searched = step_idle (λ on. before.of_searched q searched)

    -- a stone of the other colour
    pub step_other : cell_at cells q ≢ Empty → cell_at cells q ≢ stone_of c → IsGathered s cells c Z (q + 1) A G S
    step_other full other = step_idle (λ on. record {
      asks = λ p h. elim (asked_cases s cells c Z q p h) [
        | inl empty ↦ absurd (full empty.1)
        | inr own ↦ absurd (other own.1)
      ];
      guards = λ p h. absurd (other (guard_cases s cells c Z q p h).1);
    })

    -- a point that is not empty, and holds no stone of c or one whose string was searched
    pub step_stale : cell_at cells q ≢ Empty
        → (same_cell (cell_at cells q) (stone_of c) && not (sets.contains S q)) ≡ false
        → IsGathered s cells c Z (q + 1) A G S
    step_stale full stale = grind (arith, step_other, both_ways, same_cell-from, step_searched)

    -- an empty point
    pub step_empty : q < s * s → sets.contains Z q ≡ true → cell_at cells q ≡ Empty
        → IsGathered s cells c Z (q + 1) (sets.insert A q) G S
    step_empty on inside empty = step_served (sets.insert A q) G S (λ p h. insert_more p A q h) (λ p h. h)
        (λ p h. elim (in_insert A q p h) [
          | inl same ↦ subst (λ v. sets.contains (asked_of s cells c Z) v ≡ true) (sym same)
              (asks_empty s cells c Z q on inside empty)
          | inr old ↦ before.asked_right p old
        ]) before.guard_right
        (λ less. record {
          asks = λ p h. elim (asked_cases s cells c Z q p h) [
            | inl is ↦ subst (λ v. sets.contains (sets.insert A q) v ≡ true) (sym is.2) (insert_self q A)
            | inr own ↦ absurd (stone_not_empty c (sym own.1 ∙ empty))
          ];
          guards = λ p h. absurd (stone_not_empty c (sym (guard_cases s cells c Z q p h).1 ∙ empty));
        })
        (λ x h. inl h)

    -- what the string of q asks for
    abbrev pub last : Points
    last = last_of (liberty_points s cells q) (two_within Z (liberty_points s cells q))

    -- what guards it
    abbrev pub shows : Points
    shows = shown_by (string_at s cells q) (liberty_points s cells q) (enemy_points s cells q)
        (two_within Z (liberty_points s cells q))

    -- a stone of c whose string is searched now
    pub step_string : q < s * s → sets.contains Z q ≡ true → cell_at cells q ≡ stone_of c
        → IsGathered s cells c Z (q + 1) (sets.union A last) (sets.union G shows) (sets.union S (string_at s cells q))
    unfolding string_at
    step_string on inside stone =
        let B : Points = sets.union A last in
        let H : Points = sets.union G shows in
        let served : (x : ℕ) → IsInString s cells q x → IsServed s cells c Z B H x = λ x its. record {
          asks = λ p h. elim (asked_cases s cells c Z x p h) [
            | inl empty ↦ absurd (stone_not_empty c (sym (its_cell s cells q x on its ∙ stone) ∙ empty.1))
            | inr own ↦ union_second p A last
                (subst (λ (L : Points). sets.contains (last_of L (two_within Z L)) p ≡ true)
                (liberties_same_set s cells q x on its) own.2)
          ];
          guards = λ p h. union_second p G shows
              (shows_same s cells q x on its Z p (guard_cases s cells c Z x p h).2);
        } in
        step_served B H (sets.union S (string_at s cells q)) (λ p h. union_first p A last h)
        (λ p h. union_first p G shows h)
        (λ p h. elim (in_union A last p h) [
          | inl old ↦ before.asked_right p old
          | inr new ↦ asks_last s cells c Z q on inside stone p new
        ])
        (λ p h. elim (in_union G shows p h) [
          | inl old ↦ before.guard_right p old
          | inr new ↦ guards s cells c Z q on inside stone p
              (ap (λ (T : Points). sets.contains T p) (shows_is s cells Z q) ∙ insert_more p shows q new)
        ])
        (λ less. served q (string_itself s cells q (ap is_stone stone ∙ stone_is c)))
        (λ x h. elim (in_union S (string_at s cells q) x h) [
          | inl old ↦ inl old
          | inr new ↦ inr (served x (IsInString-from_test s cells q x
              (and_parts (ltb x (s * s)) (is_in_string s cells q x)
              (sym (contains-set_below (s * s) (is_in_string s cells q) x) ∙ new)).1))
        ])

  -- At its end.
  module _ (from : ℕ) (A G S : Points) (done : IsGathered s cells c Z from A G S)
      (left : (r : ℕ) → from ≤ r → sets.contains Z r ≡ false) where
    -- each point of Z on the board was served
    all_served : (q : ℕ) → q < s * s → sets.contains Z q ≡ true → IsServed s cells c Z A G q
    all_served q on inside = grind (arith, cases_lt q from, both_ways (sets.contains Z q))

    -- all that Z asks for was gathered
    asked_back : IsWithin (asked_of s cells c Z) A
    unfolding asked_of
    asked_back p h =
        let w = in_union_below (s * s) (asked_at s cells c Z) p h in
        elim (asked_cases s cells c Z w.0 p w.2) [
          | inl empty ↦ (all_served w.0 w.1 empty.0).asks p w.2
          | inr own ↦ (all_served w.0 w.1 own.0).asks p w.2
        ]

    -- the replies are those that Z asks for
    pub all_asked : A ≡ asked_of s cells c Z
    all_asked = grind (arith, same_nat_set, same_by, asked_back)

    -- all that guards Z was gathered
    guard_back : IsWithin (guard_of s cells c Z) G
    unfolding guard_of
    guard_back p h = grind (arith, in_union_below, all_served, guard_cases)

    -- and the points are those that guard it
    pub all_guard : G ≡ guard_of s cells c Z
    all_guard = grind (arith, same_nat_set, same_by, guard_back)
