-- Plays whose stone has an empty neighbour at once.
use Rattle.std.proofs.Common.{◌≡◌, ℕ, ◌*◌, ◌<◌, true, false, ap, ◌∙◌, arith, is_ok}
use Rattle.std.proofs.lemmas.Bool.Decides.{nat_tests}
use Rattle.go_rules.specs.declared.Cell.TheVariants.{Empty}
use Rattle.go_rules.specs.declared.Colour.{Colour}
use Rattle.go_rules.specs.Board.{are_neighbours}
use Rattle.go_rules.specs.Position.{BoardState, IsPosition, is_banned, stone_of}
use Rattle.go_rules.specs.Strings.{cell_at, is_stone}
use Rattle.go_rules.specs.Strings.Path.{start}
use Rattle.go_rules.specs.Play.{is_legal}
use Rattle.go_rules.proofs.Links.{liberties_from}
use Rattle.go_rules.proofs.Plays.{at_after, at_put_same, at_put_other, own_not_taken, empty_not_taken, stone_is}
use Rattle.go_rules.proofs.Results.{put_on, after_on, free_done, play_else}
use Rattle.match_engine.specs.Open.{IsEmptyBeside}

-- no point is its own neighbour
not_beside : (s p : ℕ) → are_neighbours s p p ≡ true → ⊥
unfolding are_neighbours
not_beside s p h = grind (arith, nat_tests)

module _ (pos : BoardState) (c : Colour) (p q : ℕ) (good : IsPosition pos) (on : p < pos.size * pos.size)
    (beside : IsEmptyBeside pos p q) where
  -- behind the play a stone of its colour stands there
  stone_after : cell_at (after_on pos c p) p ≡ stone_of c
  stone_after = grind (arith, put_on, at_put_same, at_after, own_not_taken)

  -- and the point beside it is empty still
  empty_after : cell_at (after_on pos c p) q ≡ Empty
  empty_after = grind (arith, not_beside, put_on, at_put_other, at_after, empty_not_taken)

-- a play on an empty point that no ban is on, with an empty point beside it, is legal
pub open_is_legal : (pos : BoardState) (c : Colour) (p q : ℕ) → IsPosition pos → p < pos.size * pos.size
    → is_stone (cell_at pos.cells p) ≡ false → is_banned pos.ban c p ≡ false → IsEmptyBeside pos p q
    → true ≡ is_legal pos c p
open_is_legal pos c p q good on none free beside =
    let stone = ap is_stone (stone_after pos c p q good on beside) ∙ stone_is c in
    let alive = liberties_from pos.size (after_on pos c p) p q on (record {
      on_board = beside.on_board;
      is_empty = empty_after pos c p q good on beside;
      beside = (p, record { stone = stone; path = start }, beside.near);
    }) in
    ap is_ok (free_done pos c p none (λ zero. omega (arith, alive, zero)) ∙ play_else pos c p none free)
