-- The points of the facts that the watch recorded.
use Rattle.std.proofs.Common.{◌*◌, ◌<◌, sym, subst}
use Rattle.std.specs.FinSet as set
use Rattle.go_base.specs.declared.look.Watch.{Watch}
use Rattle.go_base.specs.Facts.{Agrees}
use Rattle.go_base.specs.AmongFacts.{told}
use Rattle.go_base.specs.Watches.{shown_by, facts_of}
use Rattle.read_rules.specs.ActiveArea.{AgreeOn}
use Rattle.sure_rules.specs.Zones.{points_of}
use Rattle.read_zones.proofs.SeenLemmas.{agrees_on_points, facts_on, watched}
use Rattle.read_zones.proofs.seen.points_seen.Goals as goal

-- they are on the board
pub returns-clause-on_board : goal.returns-clause-on_board
returns-clause-on_board c = λ p inside.
    subst (λ (w : Watch). p < (shown_by w).size * (shown_by w).size) c.finish-look.ensures
    (facts_on (facts_of c.finish-look.result) (shown_by c.finish-look.result) (watched c.finish-look.result) p
    (rw c.facts-facts.ensures at ((c.points.ensures p).0 inside)))

-- a position that agrees on them agrees with the facts
pub returns-clause-zone : goal.returns-clause-zone
returns-clause-zone c = λ here sound same.
    subst (λ (w : Watch). Agrees (told (facts_of w)) here) c.finish-look.ensures
    (agrees_on_points (facts_of c.finish-look.result) c.points.result (shown_by c.finish-look.result) here
    (λ p. rw c.facts-facts.ensures at (c.points.ensures p)) (watched c.finish-look.result) sound
    (subst (λ (w : Watch). AgreeOn (points_of (set.contains c.points.result)) (shown_by w) here)
    (sym c.finish-look.ensures) same))
