-- What a colour took, by the stones that are gone after its moves.
use Rattle.std.proofs.Common.{◌≡◌, ℕ, ◌+◌, ◌*◌, ◌<◌, ◌&&◌, Bool, true, false, not, cond, Option, Some, None, IfSome}
use Rattle.std.proofs.Common.{◌≢◌, List, [], ◌∷◌, ◌++◌, Ok, refl, sym, ap, arith, inl, inr, ◌∙◌}
use Rattle.std.proofs.lemmas.Bool.{cases_Bool, cases_eq}
use Rattle.go_rules.specs.declared.Cell.TheVariants.{Empty}
use Rattle.go_rules.specs.declared.Colour.{Colour}
use Rattle.go_rules.specs.declared.Colour.TheVariants.{Black as black, White as white}
use Rattle.go_rules.specs.declared.Move.{Move}
use Rattle.go_rules.specs.Board.{IsSize}
use Rattle.go_rules.specs.Strings.{cell_at, is_stone}
use Rattle.go_rules.specs.Position.{BoardState, IsPosition, other, stone_of, same_colour}
use Rattle.go_rules.specs.Play.{is_taken, play_free}
use Rattle.go_rules.specs.Replay.{empty_board, moved_to, moved, led_to, replay_from, replay, taken_by, captures_from}
use Rattle.go_rules.specs.Replay.{captures, stones_gone, IsLegalMove, IsLegalGame}
use Rattle.go_rules.proofs.Counts.{count_below_same, count_below_none}
use Rattle.go_rules.proofs.Plays.{at_after, at_put_same, at_put_other, own_not_taken, taken_parts, stone_is}
use Rattle.go_rules.proofs.PlayLaws.{same_colour-itself, done_state, play_done, play_size, empty_is_position}
use Rattle.go_rules.proofs.PlayLaws.{game_keeps}
use Rattle.go_rules.proofs.Results.{put_on}

-- a stone is not gone where it still stands
none_gone : (b : Bool) → (b && not b) ≡ false
none_gone true = refl
none_gone false = refl

-- A play without regard to the ban, and a point of its board.
module _ (pos : BoardState) (c : Colour) (p : ℕ) (new : BoardState) (good : IsPosition pos)
    (on : p < pos.size * pos.size) (played : play_free pos c p ≡ Ok new) (q : ℕ) (q_on : q < pos.size * pos.size) where
  -- the stone that was there, and is there no more
  abbrev is_gone : Bool
  is_gone = is_stone (cell_at pos.cells q) && not (is_stone (cell_at new.cells q))

  -- a taken point is empty after the play, and another holds what it held with the stone put
  now : cell_at new.cells q
      ≡ cond (is_taken pos.size (put_on pos c p) c q) Empty (cell_at (put_on pos c p) q)
  now = ap (λ (x : BoardState). cell_at x.cells q) (done_state pos c p new played).1
      ∙ at_after pos.size (put_on pos c p) c q q_on

  -- the point of the play is not taken, and it was empty
  own_stays : q ≡ p → is_taken pos.size (put_on pos c p) c q ≡ is_gone
  own_stays same =
      own_not_taken pos.size (put_on pos c p) c q (ap (cell_at (put_on pos c p)) same
      ∙ at_put_same pos.cells p (stone_of c) (omega (arith, good.cells, on)))
      ∙ sym (ap (λ b. b && not (is_stone (cell_at new.cells q)))
      (ap is_stone (ap (cell_at pos.cells) same ∙ (done_state pos c p new played).0)))

  -- what is taken stood before, and is gone
  taken_goes : q ≢ p → is_taken pos.size (put_on pos c p) c q ≡ true
      → is_taken pos.size (put_on pos c p) c q ≡ is_gone
  taken_goes ne t =
      let stood : is_stone (cell_at pos.cells q) ≡ true =
      ap is_stone (sym (at_put_other pos.cells p q (stone_of c) ne) ∙ (taken_parts pos.size (put_on pos c p) c q t).0)
      ∙ stone_is (other c) in
      let gone : cell_at new.cells q ≡ Empty = now ∙ ap (λ b. cond b Empty (cell_at (put_on pos c p) q)) t in
      t ∙ sym (ap (λ b. b && not (is_stone (cell_at new.cells q))) stood ∙ ap (λ k. not (is_stone k)) gone)

  -- what is not taken stays as it was
  other_stays : q ≢ p → is_taken pos.size (put_on pos c p) c q ≡ false
      → is_taken pos.size (put_on pos c p) c q ≡ is_gone
  other_stays ne f =
      let stays : cell_at new.cells q ≡ cell_at pos.cells q =
      now ∙ ap (λ b. cond b Empty (cell_at (put_on pos c p) q)) f ∙ at_put_other pos.cells p q (stone_of c) ne in
      f ∙ sym (ap (λ k. is_stone (cell_at pos.cells q) && not (is_stone k)) stays
      ∙ none_gone (is_stone (cell_at pos.cells q)))

-- after a play without regard to the ban, a stone is taken exactly if it stood before and does not after
taken_is_gone : (pos : BoardState) (c : Colour) (p : ℕ) (new : BoardState) → IsPosition pos → p < pos.size * pos.size
    → play_free pos c p ≡ Ok new
    → (q : ℕ) → q < pos.size * pos.size
    → is_taken pos.size (put_on pos c p) c q ≡ (is_stone (cell_at pos.cells q) && not (is_stone (cell_at new.cells q)))
taken_is_gone pos c p new good on e q q_on = elim (cases_eq q p) [
  | inl same ↦ own_stays pos c p new good on e q q_on same
  | inr ne ↦ elim (cases_Bool (is_taken pos.size (put_on pos c p) c q)) [
    | inl t ↦ taken_goes pos c p new good on e q q_on ne t
    | inr f ↦ other_stays pos c p new good on e q q_on ne f
  ]
]

-- a legal move takes the stones that are gone after it
taken_by_move : (pos : BoardState) (c : Colour) (at : Option ℕ) (next : BoardState) → IsPosition pos
    → IfSome at (λ p. p < pos.size * pos.size) → moved_to pos c at ≡ Ok next
    → taken_by pos c at ≡ stones_gone pos.size pos.cells next.cells
taken_by_move pos c None next good on e = grind (arith, count_below_none, none_gone)
taken_by_move pos c (Some p) next good on e =
    count_below_same (pos.size * pos.size) _ _ (taken_is_gone pos c p next good on (play_done pos c p next e))

-- what the moves of a list took, and one move more
captures_snoc : (pos : BoardState) (c : Colour) (ms : List Move) (m : Move) → captures_from pos c (ms ++ m ∷ [])
    ≡ captures_from pos c ms + cond (same_colour m.colour c) (taken_by (replay_from pos ms) m.colour m.at) 0
unfolding captures_from replay_from
captures_snoc pos c [] m = omega arith
captures_snoc pos c (k ∷ ms) m = grind (arith, captures_snoc (led_to pos (moved pos k)) c ms m)

-- a colour is not the same as the other
same_colour-other : (c : Colour) → same_colour c (other c) ≡ false
same_colour-other black = refl
same_colour-other white = refl

-- no move takes nothing
pub no_captures : (s : ℕ) (c : Colour) → captures s c [] ≡ 0
unfolding captures_from
no_captures s c = refl

-- a move keeps the size of the board
pub moved_size : (pos : BoardState) (c : Colour) (at : Option ℕ) → (led_to pos (moved_to pos c at)).size ≡ pos.size
moved_size pos c None = refl
moved_size pos c (Some p) = play_size pos c p

-- and so does a game
pub replay_size : (pos : BoardState) (ms : List Move) → (replay_from pos ms).size ≡ pos.size
unfolding replay_from
replay_size pos [] = refl
replay_size pos (m ∷ ms) = replay_size (led_to pos (moved pos m)) ms ∙ moved_size pos m.colour m.at

-- a legal move of the colour took what is gone after it
pub own_captures : (s : ℕ) (moves : List Move) (m : Move) (next : BoardState) → IsSize s
    → IsLegalGame (empty_board s) moves → IsLegalMove (replay s moves) m
    → moved (replay s moves) m ≡ Ok next
    → captures s m.colour (moves ++ m ∷ []) ≡ captures s m.colour moves + stones_gone s
    (replay s moves).cells next.cells
own_captures s moves m next size legal allowed e =
    grind (arith, game_keeps, empty_is_position, captures_snoc, same_colour-itself, taken_by_move, replay_size)

-- a move of one colour took nothing for the other
pub others_captures : (s : ℕ) (moves : List Move) (m : Move)
    → captures s (other m.colour) (moves ++ m ∷ []) ≡ captures s (other m.colour) moves
others_captures s moves m = grind (arith, same_colour-other, captures_snoc)

-- a pass took nothing
pub pass_captures : (s : ℕ) (c k : Colour) (moves : List Move)
    → captures s c (moves ++ (record { colour = k; at = None }) ∷ []) ≡ captures s c moves
pass_captures s c k moves = grind (arith, captures_snoc)
