-- What the trial moves changed: a point that no move touched is as the position has it, and of each other it is told
-- what was put there.
use Rattle.std.proofs.Common.{◌≡◌, ◌≢◌, ℕ, zero, suc, ◌+◌, ◌*◌, ◌<◌, ◌||◌, Bool, true, false, cond, eqb, List}
use Rattle.std.proofs.Common.{length, get_or, Option, Some, None, map, refl, sym, ap, subst, arith, inl, inr, ◌∙◌}
use Rattle.std.specs.Prelude.{◌⊎◌}
use Rattle.std.proofs.lemmas.Bool.{cases_Bool, cases_eq, ne_eqb, eqb-true, or_parts}
use Rattle.std.proofs.lemmas.List.FromFn.{get_or-map-range_with_len, fill_by_all}
use Rattle.std.specs.Ordering.{nat_cmp}
use Rattle.std.specs.FinSet as sets
use Rattle.go_rules.specs.declared.Cell.{Cell}
use Rattle.go_rules.specs.declared.Cell.TheVariants.{Empty}
use Rattle.go_rules.specs.declared.Colour.{Colour}
use Rattle.go_rules.specs.Strings.{cell_at}
use Rattle.go_rules.specs.Position.{BoardState, other, stone_of}
use Rattle.go_base.specs.TakenBack.{before_play}
use Rattle.trial_board.specs.declared.changes.Changes.{Changes}
use Rattle.trial_board.specs.declared.known.Known.{Known}
use Rattle.trial_board.specs.declared.known.Known.TheVariants.{NotAsked, Seen, Put}
use Rattle.trial_board.specs.declared.moves.TrialMove.{TrialMove}
use Rattle.trial_board.specs.declared.moves.TrialMove.TheVariants.{Pass, Play}
use Rattle.trial_board.specs.UndoableMoves.{UndoableMove}
use Rattle.trial_board.specs.Overlays.{over, overlaid}
use Rattle.trial_board.specs.Trials.{after}
use Rattle.trial_board.specs.Standing.{kept_at, newest_first, before_move, taken_by, PlaysOn, IsMoveOnBoard}
use Rattle.trial_board.specs.Standing.{IsAt, IsBefore}
use Rattle.trial_board.specs.Changed.{told_at, told_or, changed, put_cell, is_played_at, is_touched_by, is_touched}
use Rattle.trial_board.specs.Changed.{TellsPut}
use Rattle.trial_board.proofs.AfterLemmas.{size-after}
use Rattle.trial_board.specs.Captured.{points_in}
use Rattle.trial_board.proofs.OverlayLemmas.{at_overlaid, length_overlaid}
use Rattle.trial_board.proofs.CapturedLemmas.{points_in-more}
use Rattle.go_rules.proofs.Sets.{contains-insert_nat}
use Rattle.std.specs.List.{range_with_len}

-- what is not the first of two is the second
pub or_else : (a b : Bool) → a ≡ false → (a || b) ≡ true → b ≡ true
or_else false b e h = h
or_else true b e h = cc

-- one of the first two of three is one of the last two or the first
pub or_later : (a b c : Bool) → (a || b || c) ≡ true → (a || (b || c)) ≡ true
or_later true b c h = refl
or_later false b c h = h

-- the first two of three in the other order
pub or_swapped : (a b c : Bool) → (a || b || c) ≡ true → (b || (a || c)) ≡ true
or_swapped true true c h = refl
or_swapped true false c h = refl
or_swapped false b c h = h

-- what is told with fewer points touched
pub tells_fewer : {known : List Known} {touched : ℕ → Bool} {c : Changes} (fewer : ℕ → Bool)
    → TellsPut known touched c → ((q : ℕ) → fewer q ≡ true → touched q ≡ true) → TellsPut known fewer c
tells_fewer fewer t h = record { only = t.only; each = λ q f. t.each q (h q f) }

-- Of a point p this cell was put, and told where no other was told of it; elsewhere nothing new is told.
module _ {known : List Known} {touched : ℕ → Bool} {old : Changes} (new : Changes) (p : ℕ) (cell : Cell)
    (t : TellsPut known touched old) (is : get_or known p NotAsked ≡ Put cell)
    (here : (told_at old p ≡ None) ⊎ (told_at old p ≡ Some cell) → told_at new p ≡ Some cell)
    (elsewhere : (q : ℕ) → q ≢ p → told_at new q ≡ told_at old q) where
  -- so what was put there is told
  told_here : (q : ℕ) → q ≡ p → told_at new q ≡ put_cell (get_or known q NotAsked)
  told_here q e =
      let put : put_cell (get_or known p NotAsked) ≡ Some cell = ap put_cell is in
      subst (λ x. told_at new x ≡ put_cell (get_or known x NotAsked)) (sym e)
      (here (elim (t.only p) [ inl n ↦ inl n | inr s ↦ inr (s ∙ put) ]) ∙ sym put)

  -- of each point nothing is told but what was put
  told_only : (q : ℕ) → (told_at new q ≡ None) ⊎ (told_at new q ≡ put_cell (get_or known q NotAsked))
  told_only q = elim (cases_eq q p) [
    | inl e ↦ inr (told_here q e)
    | inr ne ↦ elim (t.only q) [ inl n ↦ inl (elsewhere q ne ∙ n) | inr s ↦ inr (elsewhere q ne ∙ s) ]
  ]

-- one more cell that was put is told
pub tells_put : {known : List Known} {touched : ℕ → Bool} {old new : Changes} (p : ℕ) (cell : Cell)
    → TellsPut known touched old → get_or known p NotAsked ≡ Put cell
    → ((told_at old p ≡ None) ⊎ (told_at old p ≡ Some cell) → told_at new p ≡ Some cell)
    → ((q : ℕ) → q ≢ p → told_at new q ≡ told_at old q) → TellsPut known (λ q. eqb q p || touched q) new
tells_put {touched} {new} p cell t is here elsewhere = record {
  only = told_only new p cell t is here elsewhere;
  each = λ q h. elim (cases_eq q p) [
    | inl e ↦ told_here new p cell t is here elsewhere q e
    | inr ne ↦ elsewhere q ne ∙ t.each q (or_else (eqb q p) (touched q) (ne_eqb q p ne) h)
  ];
}

-- what a point held before a play, by what it holds after it
at_before : (s : ℕ) (c : Colour) (p : ℕ) (taken : sets.FinSet nat_cmp) (cells : List Cell) (q : ℕ) → q < s * s
    → cell_at (before_play s c p taken cells) q
    ≡ cond (eqb q p) Empty (cond (sets.contains taken q) (stone_of (other c)) (cell_at cells q))
unfolding before_play
at_before s c p taken cells q l = get_or-map-range_with_len _ 0 (s * s) q q Empty l (omega arith)

-- a point that the move did not touch held the same before it
before_same : (s : ℕ) (made : TrialMove) (taken : sets.FinSet nat_cmp) (cells : List Cell) (q : ℕ) → q < s * s
    → (is_played_at made q || sets.contains taken q) ≡ false
    → cell_at (before_move s made taken cells) q ≡ cell_at cells q
before_same s Pass taken cells q l f = refl
before_same s (Play m) taken cells q l f = grind (arith, or_parts, at_before)

-- a point that no move touched is as the position has it
untouched : (pos : BoardState) (row : List ℕ) (kept : List UndoableMove) (n q : ℕ) → q < pos.size * pos.size
    → ((k : ℕ) → k < n → IsBefore pos (newest_first kept k) (kept_at kept k) (taken_by row (kept_at kept k)))
    → is_touched row kept n q ≡ false
    → cell_at (after pos (newest_first kept n)).cells q ≡ cell_at pos.cells q
untouched pos row kept zero q l before f = refl
untouched pos row kept (suc n) q l before f = grind (arith, or_parts, before_same, untouched pos row kept n q l)

-- what was put at a point, or else the cell of the position
over_put : (known : Known) (cell : Cell) → over known cell ≡ told_or (put_cell known) cell
over_put NotAsked cell = refl
over_put (Seen k) cell = refl
over_put (Put k) cell = refl

-- a point where the board has the position's cell, or where what was put is told
told_is : (told : Option Cell) (known : Known) (cell : Cell) → (told ≡ None) ⊎ (told ≡ put_cell known)
    → (told ≡ None → over known cell ≡ cell) → over known cell ≡ told_or told cell
told_is told known cell by none = grind (arith, over_put)

-- so the board is the position's cells with what is told
overlaid_told : (pos : BoardState) (row : List ℕ) (kept : List UndoableMove) (n : ℕ) (known : List Known) (c : Changes)
    → (after pos (newest_first kept n)).cells ≡ overlaid pos.size known pos.cells
    → ((k : ℕ) → k < n → IsBefore pos (newest_first kept k) (kept_at kept k) (taken_by row (kept_at kept k)))
    → TellsPut known (is_touched row kept n) c
    → overlaid pos.size known pos.cells
    ≡ map (λ q. told_or (told_at c q) (cell_at pos.cells q)) (range_with_len 0 (pos.size * pos.size))
overlaid_told pos row kept n known c cells before tells =
    fill_by_all (λ q. told_or (told_at c q) (cell_at pos.cells q)) (overlaid pos.size known pos.cells)
    (pos.size * pos.size) Empty (length_overlaid pos.size known pos.cells) (λ q l.
    at_overlaid pos.size known pos.cells q l
    ∙ told_is (told_at c q) (get_or known q NotAsked) (cell_at pos.cells q) (tells.only q)
    (λ none. elim (cases_Bool (is_touched row kept n q)) [
      | inl t ↦ over_put (get_or known q NotAsked) (cell_at pos.cells q)
          ∙ ap (λ told. told_or told (cell_at pos.cells q)) (sym (tells.each q t) ∙ none)
      | inr f ↦ sym (at_overlaid pos.size known pos.cells q l) ∙ sym (ap (λ t. cell_at t q) cells)
          ∙ untouched pos row kept n q l before f
    ]))

-- a board of these
abbrev board : ℕ → List Cell → Option (ℕ × Colour) → BoardState
board s cells ban = record { size = s; cells = cells; ban = ban }

-- the board after the moves is the position with what they changed
pub changed_is : (pos : BoardState) (row : List ℕ) (kept : List UndoableMove) (n : ℕ) (known : List Known)
    (ban : Option (ℕ × Colour)) (c : Changes)
    → IsAt pos (newest_first kept n) (overlaid pos.size known pos.cells) ban → 0 < length (newest_first kept n)
    → ((k : ℕ) → k < n → IsBefore pos (newest_first kept k) (kept_at kept k) (taken_by row (kept_at kept k)))
    → TellsPut known (is_touched row kept n) c → c.ban ≡ ban
    → after pos (newest_first kept n) ≡ changed pos c
unfolding changed
changed_is pos row kept n known ban c at some before tells same =
    grind (arith, overlaid_told pos row kept n known c at.cells before tells, size-after pos (newest_first kept n))

-- the point of a play on the board is on it
played_on : (s : ℕ) (made : TrialMove) (q : ℕ) → PlaysOn s made → is_played_at made q ≡ true → q < s * s
played_on s Pass q on t = cc
played_on s (Play m) q on t = subst (λ x. x < s * s) (sym (eqb-true q m.at t)) on

-- the points that a move on the board touched are on it
pub touched_on : (s : ℕ) (row : List ℕ) (move : UndoableMove) (q : ℕ)
    → IsMoveOnBoard s move.made (taken_by row move) → is_touched_by row move q ≡ true → q < s * s
touched_on s row move q on h = grind (arith, cases_Bool, played_on, or_else)

-- one of the points of a row is the next, or one of those before it
pub one_more : (row : List ℕ) (first n q : ℕ) → sets.contains (points_in row first (n + 1)) q
    ≡ (eqb q (get_or row (first + n) 0) || sets.contains (points_in row first n) q)
one_more row first n q = grind (arith, points_in-more, contains-insert_nat)
