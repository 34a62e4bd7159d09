use Rattle.std.proofs.Common.{◌≡◌}
use Rattle.go_rules.specs.Below.{set_below}
use Rattle.go_rules.specs.Play.{is_legal}
use Rattle.go_strings.specs.Games.{reached}
use Rattle.go_strings.proofs.board.StringBoard.legal_points.Given as goal

-- of the points so far those were found where the colour may play
abbrev pub invariant-loop-p : goal.invariant-loop-p
invariant-loop-p l = l.found ≡ set_below l.p (is_legal (reached l.self) l.c)
