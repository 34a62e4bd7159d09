use Rattle.std.proofs.Common.{length, ap, ◌∙◌}
use Rattle.std.proofs.lemmas.List.{length-replicate}
use Rattle.go_rules.specs.Board.{largest_points}
use Rattle.trial_board.specs.declared.known.Known.{Known}
use Rattle.trial_board.specs.declared.known.Known.TheVariants.{NotAsked}
use Rattle.trial_board.proofs.OverlayLemmas.{Remembers-none}
use Rattle.trial_board.proofs.overlay.Overlay.new.Goals as goal

-- nothing is remembered
pub invariant_of-result : goal.invariant_of-result
invariant_of-result g c = record {
  whole = ap length c.nothing_known.ensures ∙ length-replicate {A = Known} largest_points NotAsked;
  remembered = Remembers-none c.nothing_known.ensures;
}
