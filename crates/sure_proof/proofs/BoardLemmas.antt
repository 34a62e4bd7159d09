-- The points on which a play and a zone rest are on the board.
use Rattle.std.proofs.Common.{◌≡◌, ℕ, ◌*◌, ◌<◌, Bool, true, false, cond, List, Option, Some, None, refl, sym, subst}
use Rattle.std.proofs.Common.{inl, inr}
use Rattle.std.specs.FinSet as sets
use Rattle.go_rules.specs.declared.Cell.{Cell}
use Rattle.go_rules.specs.declared.Colour.{Colour}
use Rattle.go_rules.specs.Strings.{cell_at, is_in_string, string_at, liberty_points}
use Rattle.go_base.specs.Floods.{enemy_points}
use Rattle.go_base.specs.Sides.{neighbour_at}
use Rattle.go_base.proofs.SidesOfPoints.{neighbour_at-near}
use Rattle.sure_proof.specs.Rests.{Points, union_below, two_within, close_to, shown_by, shows_atari}
use Rattle.sure_proof.specs.Rests.{has_empty_neighbour, shows_cell, shows_neighbour, play_rests_on}
use Rattle.sure_proof.specs.Rests.{guard_at, guard_of, asked_at, asked_of, last_of}
use Rattle.sure_proof.proofs.ShownLemmas.{liberty_in, two_within_give}
use Rattle.sure_proof.proofs.GuardLemmas.{in_insert, in_empty, in_union_below, asked_cases, guard_cases}
use Rattle.sure_proof.proofs.CandidateLemmas.{on_below, close_on}

-- The board's cells.
module _ (s : ℕ) (cells : List Cell) where
  -- a string and all its neighbours, written out
  string_on : (q p : ℕ) → sets.contains (sets.union (sets.union (string_at s cells q) (liberty_points s cells q))
      (enemy_points s cells q)) p ≡ true → p < s * s
  unfolding close_to
  string_on q p h = close_on p s cells q h

  -- a stone of a string
  stone_on : (q p : ℕ) → sets.contains (string_at s cells q) p ≡ true → p < s * s
  unfolding string_at
  stone_on q p h = on_below p (s * s) (is_in_string s cells q) h

  -- what shows whether a string is in atari
  pub shows_on : (Z : Points) (q p : ℕ) → q < s * s → sets.contains (shows_atari s cells Z q) p ≡ true → p < s * s
  unfolding shows_atari
  shows_on Z q p on h = elim (in_insert (shown_by (string_at s cells q) (liberty_points s cells q)
      (enemy_points s cells q) (two_within Z (liberty_points s cells q))) q p h) [
        | inl same ↦ subst (λ v. v < s * s) (sym same) on
        | inr old ↦ by (two_within Z (liberty_points s cells q)) refl old
      ]
    where
      by : (o : Option (ℕ × ℕ)) → two_within Z (liberty_points s cells q) ≡ o
          → sets.contains (shown_by (string_at s cells q) (liberty_points s cells q) (enemy_points s cells q) o) p
          ≡ true
          → p < s * s
      by None is h = string_on q p h
      by (Some w) is h =
          let found = two_within_give Z (liberty_points s cells q) w.0 w.1 is in
          elim (in_insert (sets.insert (string_at s cells q) w.0) w.1 p h) [
            | inl second ↦ subst (λ v. v < s * s) (sym second) (liberty_in s cells q w.1 found.2).on_board
            | inr rest ↦ elim (in_insert (string_at s cells q) w.0 p rest) [
              | inl first ↦ subst (λ v. v < s * s) (sym first) (liberty_in s cells q w.0 found.1).on_board
              | inr stone ↦ stone_on q p stone
            ]
          ]

  -- what a neighbour shows
  side_on : (c : Colour) (free : Bool) (Z : Points) (p side q : ℕ) → p < s * s
      → sets.contains (shows_neighbour s cells c free Z (neighbour_at s p side)) q ≡ true → q < s * s
  side_on c free Z p side q on h = by (neighbour_at s p side) refl h
    where
      by : (o : Option ℕ) → neighbour_at s p side ≡ o → sets.contains (shows_neighbour s cells c free Z o) q ≡ true
          → q < s * s
      by None is h = in_empty q h
      by (Some r) is h = own (shows_cell c free (cell_at cells r)) h
        where
          r_on : r < s * s
          r_on = (neighbour_at-near s p side r on is).0

          own : (b : Bool) → sets.contains (cond b (sets.insert sets.empty r) (shows_atari s cells Z r)) q ≡ true
              → q < s * s
          own true h = elim (in_insert sets.empty r q h) [
            | inl same ↦ subst (λ v. v < s * s) (sym same) r_on
            | inr none ↦ in_empty q none
          ]
          own false h = shows_on Z r q r_on h

  -- what a play rests on
  pub play_on : (c : Colour) (Z : Points) (p q : ℕ) → p < s * s → sets.contains (play_rests_on s cells c Z p) q ≡ true
      → q < s * s
  unfolding play_rests_on
  play_on c Z p q on h =
      let free = has_empty_neighbour s cells p in
      let each : ℕ → Points = λ side. shows_neighbour s cells c free (sets.insert Z p) (neighbour_at s p side) in
      elim (in_insert (union_below 4 each) p q h) [
        | inl same ↦ subst (λ v. v < s * s) (sym same) on
        | inr beside ↦
            let w = in_union_below 4 each q beside in side_on c free (sets.insert Z p) p w.0 q on w.2
      ]

  -- what guards a zone
  pub guard_on : (c : Colour) (Z : Points) (p : ℕ) → sets.contains (guard_of s cells c Z) p ≡ true → p < s * s
  unfolding guard_of
  guard_on c Z p h =
      let w = in_union_below (s * s) (guard_at s cells c Z) p h in
      shows_on Z w.0 p w.1 (guard_cases s cells c Z w.0 p w.2).2

  -- the last liberties of a string
  last_on : (q p : ℕ) (o : Option (ℕ × ℕ)) → sets.contains (last_of (liberty_points s cells q) o) p ≡ true → p < s * s
  last_on q p None h = (liberty_in s cells q p h).on_board
  last_on q p (Some w) h = in_empty p h

  -- what a zone asks for
  pub asked_on : (c : Colour) (Z : Points) (p : ℕ) → sets.contains (asked_of s cells c Z) p ≡ true → p < s * s
  unfolding asked_of
  asked_on c Z p h =
      let w = in_union_below (s * s) (asked_at s cells c Z) p h in
      elim (asked_cases s cells c Z w.0 p w.2) [
        | inl empty ↦ subst (λ v. v < s * s) (sym empty.2) w.1
        | inr own ↦ last_on w.0 p (two_within Z (liberty_points s cells w.0)) own.2
      ]
