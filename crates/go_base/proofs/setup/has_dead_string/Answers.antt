-- The points of the board, one after another.
use Rattle.std.proofs.Common.{◌*◌, arith, refl, take}
use Rattle.go_base.specs.Flats.{KeepsRest-refl}
use Rattle.go_base.proofs.Marks.{marked-nothing}
use Rattle.go_base.proofs.Setups.{none_dead, one_dead, AreAlive-none}
use Rattle.go_base.proofs.setup.has_dead_string.Goals as goal

-- no stone is noted yet
pub loop-p-init : goal.loop-p-init
loop-p-init c = record {
  keeps = KeepsRest-refl c.args.board.now;
  same = refl;
  none = λ k below. absurd (omega (arith, below));
  alive = AreAlive-none c.args.board.now.size
      (take (c.args.board.now.size * c.args.board.now.size) c.args.board.now.cells) _
      (marked-nothing _ c.new-alive.ensures);
}

-- a dead stone ends the search
pub returns-then-is_dead_at-clause-value : goal.returns-then-is_dead_at-clause-value
returns-then-is_dead_at-clause-value c = grind (arith, one_dead)

-- no stone is dead
pub returns-clause-value : goal.returns-clause-value
returns-clause-value c = grind (arith, none_dead)
