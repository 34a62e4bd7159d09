use Rattle.go_strings.specs.Stands.{cells_of}
use Rattle.go_strings.proofs.LivingStones.{AreDeadSides}
use Rattle.go_strings.proofs.living.is_alive.Given as goal

-- no side so far gave life
abbrev pub invariant-loop-side : goal.invariant-loop-side
invariant-loop-side l = AreDeadSides l.board.size (cells_of l.board) l.c l.p l.side
