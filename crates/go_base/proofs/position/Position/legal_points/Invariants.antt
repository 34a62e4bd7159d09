use Rattle.std.proofs.Common.{◌≡◌}
use Rattle.go_rules.specs.Below.{set_below}
use Rattle.go_rules.specs.Play.{is_legal}
use Rattle.go_base.specs.Positions.{Holds}
use Rattle.go_base.proofs.position.Position.legal_points.Given as goal

-- the board holds the position, and of the points so far those were found where the colour may play
abbrev pub invariant-loop-p : goal.invariant-loop-p
invariant-loop-p l = record {
  holds : Holds l.self l.board;
  found : l.found ≡ set_below l.p (is_legal l.self l.c);
}
