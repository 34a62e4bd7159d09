-- The loop over the plies.
use Rattle.std.proofs.Common.{◌≡◌}
use Rattle.go_rules.specs.Position.{BoardState}
use Rattle.go_base.specs.Facts.{Agrees, Grows}
use Rattle.read_all.specs.FewestPlies.{HasLessBelow}
use Rattle.read_all.proofs.fewest.fewest_of.Given as goal

-- with fewer plies the code is less, on any position that agrees
abbrev pub invariant-depths : goal.invariant-depths
invariant-depths g l = record {
  shown : g.L.Look.shows l.view ≡ g.L.Look.shows l.fn.look;
  grows : Grows (g.L.Look.seen l.fn.look) (g.L.Look.seen l.view);
  less : (pos : BoardState) → Agrees (g.L.Look.seen l.view) pos → HasLessBelow l.question pos l.code l.plies;
}
