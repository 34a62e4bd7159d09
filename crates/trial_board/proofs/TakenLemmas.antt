-- What a play took is as it was before if it is taken back, and there is room for it.
use Rattle.std.proofs.Common.{◌≡◌, ℕ, ◌+◌, ◌*◌, ◌<◌, ◌≤◌, true, false, cond, eqb, List, length, Ok}
use Rattle.std.proofs.Common.{Err, sym, ap, arith, inl, inr, ◌∙◌}
use Rattle.std.proofs.Math.ListN.{set, length-set}
use Rattle.std.proofs.lemmas.Bool.{cases_Bool, cases_eq, eq-eqb, ne_eqb, eqb-true, eqb-false, both_ways}
use Rattle.std.proofs.lemmas.List.FromFn.{fill_by_all}
use Rattle.std.specs.Ordering.{nat_cmp}
use Rattle.std.specs.FinSet as sets
use Rattle.go_rules.specs.declared.Cell.{Cell}
use Rattle.go_rules.specs.declared.Cell.TheVariants.{Empty}
use Rattle.go_rules.specs.declared.Colour.{Colour}
use Rattle.go_rules.specs.declared.Illegal.TheVariants.{Occupied, Suicide}
use Rattle.go_rules.specs.Below.{count_below}
use Rattle.go_rules.specs.Strings.{cell_at, is_stone, liberties}
use Rattle.go_rules.specs.Position.{BoardState, other, stone_of, board_of}
use Rattle.go_rules.specs.Play.{is_taken, taken_at, cells_after, play_free}
use Rattle.go_rules.proofs.Plays.{stone_is, taken_parts, at_put_same, at_put_other, at_after}
use Rattle.go_rules.proofs.Results.{after_on, result_of, free_occupied, free_suicide, free_done}
use Rattle.go_rules.proofs.Sets.{len-set_below}
use Rattle.go_base.specs.TakenBack.{before_play}
use Rattle.trial_board.specs.Captured.{points_in, stones_on}
use Rattle.trial_board.proofs.CapturedLemmas.{count_below-two, count_below-one}

-- the cells that a play leaves are those of the rules
pub played_cells : (s : ℕ) (old : List Cell) (c : Colour) (p : ℕ) (new : BoardState)
    → play_free (board_of s old) c p ≡ Ok new → new.cells ≡ cells_after s (set old p (stone_of c)) c
played_cells s old c p new played =
    let pos = board_of s old in
    elim (cases_Bool (is_stone (cell_at old p))) [
      | inl t ↦ absurd (let w : Err Occupied ≡ Ok new = free_occupied pos c p t ∙ played in cc)
      | inr f ↦ elim (cases_Bool (eqb (liberties s (after_on pos c p) p) 0)) [
        | inl z ↦ absurd (let w : Err Suicide ≡ Ok new = free_suicide pos c p f (eqb-true _ _ z) ∙ played in cc)
        | inr nz ↦ let w : Ok (result_of pos c p) ≡ Ok new = free_done pos c p f (eqb-false _ _ nz) ∙ played in
            let same : result_of pos c p ≡ new = cc in sym (ap (λ (x : BoardState). x.cells) same)
      ]
    ]

-- as many stones are taken as points pass the test
len-taken_at : (s : ℕ) (put : List Cell) (c : Colour)
    → sets.len (taken_at s put c) ≡ count_below (s * s) (is_taken s put c)
unfolding taken_at
len-taken_at s put c = len-set_below (s * s) (is_taken s put c)

-- cells that are at each point what taking back gives are the cells before the play
pub before_all : (s : ℕ) (c : Colour) (p : ℕ) (taken : sets.FinSet nat_cmp) (now old : List Cell) → length old ≡ s * s
    → ((q : ℕ) → q < s * s → cell_at old q ≡ cond (eqb q p) Empty (cond (sets.contains taken q) (stone_of (other c))
    (cell_at now q))) → before_play s c p taken now ≡ old
unfolding before_play
before_all s c p taken now old whole h = sym
    (fill_by_all (λ q. cond (eqb q p) Empty (cond (sets.contains taken q) (stone_of (other c)) (cell_at now q))) old
    (s * s) Empty whole h)

-- before a play that took nothing its point was empty, and each other was as it is
pub empty_before : (s : ℕ) (c : Colour) (p : ℕ) (row : List ℕ) (first n : ℕ) (now : List Cell) → n ≡ 0
    → length now ≡ s * s
    → set now p Empty ≡ before_play s c p (points_in row first n) now
empty_before s c p row first n now none l =
    let empty : points_in row first n ≡ sets.empty = ap (points_in row first) none in
    sym (before_all s c p (points_in row first n) now (set now p Empty) (length-set now p Empty ∙ l) (λ q h.
    elim (cases_eq q p) [
      | inl e ↦ rw (eq-eqb q p e) (ap (cell_at (set now p Empty)) e ∙ at_put_same now p Empty (omega (arith, l, h, e)))
      | inr ne ↦ rw (ne_eqb q p ne, empty, sets.contains-empty nat_cmp q) (at_put_other now p q Empty ne)
    ]))

-- A play of c at p took the cells of a board of s rows to those of the rules, and these stones.
module _ (s : ℕ) (old now : List Cell) (c : Colour) (p : ℕ) (taken : sets.FinSet nat_cmp)
    (rules : now ≡ cells_after s (set old p (stone_of c)) c)
    (told : taken ≡ taken_at s (set old p (stone_of c)) c) where
  -- the board before the play, with the stone put
  abbrev put : List Cell
  put = set old p (stone_of c)

  -- what a point holds after the play
  is_now : (q : ℕ) → q < s * s → cell_at now q ≡ cond (is_taken s put c q) Empty (cell_at put q)
  is_now q h = ap (λ t. cell_at t q) rules ∙ at_after s put c q h

  -- a stone stood where one was taken
  taken_stone : (q : ℕ) → q < s * s → is_taken s put c q ≡ true → is_stone (cell_at put q) ≡ true
  taken_stone q h t = ap is_stone (taken_parts s put c q t).0 ∙ stone_is (other c)

  -- a stone that stands stood after the put, and was not taken
  stands_from : (q : ℕ) → q < s * s → is_stone (cell_at now q) ≡ true
      → (is_taken s put c q ≡ false) × (is_stone (cell_at put q) ≡ true)
  stands_from q h t = elim (cases_Bool (is_taken s put c q)) [
    | inl dead ↦ absurd (both_ways (is_stone (cell_at now q))
        (ap is_stone (is_now q h ∙ ap (λ b. cond b Empty (cell_at put q)) dead)) t)
    | inr free ↦ (free, sym (ap is_stone (is_now q h ∙ ap (λ b. cond b Empty (cell_at put q)) free)) ∙ t)
  ]

  -- so many stones were taken
  counted : sets.len taken ≡ count_below (s * s) (is_taken s put c)
  counted = ap sets.len told ∙ len-taken_at s put c

  -- a play adds one stone at most to those that stand and those that it took
  pub taken_room : sets.len taken + stones_on s now ≤ stones_on s old + 1
  taken_room =
      let two = count_below-two (s * s) (λ q. is_stone (cell_at now q)) (is_taken s put c)
      (λ q. is_stone (cell_at put q)) stands_from taken_stone in
      let one = count_below-one (s * s) p (λ q. is_stone (cell_at put q)) (λ q. is_stone (cell_at old q))
      (λ k h ne t. sym (ap is_stone (at_put_other old p k (stone_of c) ne)) ∙ t) in
      omega (arith, counted, two, one)
