-- The loop over the points of the board.
use Rattle.std.proofs.Common.{◌≡◌, ℕ, ◌*◌, ◌<◌, take, false}
use Rattle.go_base.specs.Flats.{KeepsRest}
use Rattle.go_base.specs.Bits.{marked}
use Rattle.go_base.specs.Setups.{is_dead_at, AreAlive}
use Rattle.go_base.proofs.setup.has_dead_string.Given as goal

-- the board is as it was, and no stone on the points so far is dead
abbrev pub invariant-loop-p : goal.invariant-loop-p
invariant-loop-p l = record {
  keeps : KeepsRest l.fn.board l.board;
  same : take (l.board.size * l.board.size) l.board.cells ≡ take (l.fn.board.size * l.fn.board.size) l.fn.board.cells;
  none : (k : ℕ) → k < l.p
      → is_dead_at l.fn.board.size (take (l.fn.board.size * l.fn.board.size) l.fn.board.cells) k ≡ false;
  alive : AreAlive l.fn.board.size (take (l.fn.board.size * l.fn.board.size) l.fn.board.cells) (marked l.alive);
}
