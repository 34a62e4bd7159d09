-- A play that cannot be made, and what shows it.
use Rattle.std.proofs.Common.{◌∙◌, ap, arith}
use Rattle.std.specs.FinSet as set
use Rattle.std.specs.Ordering.{nat_cmp}
use Rattle.std.proofs.lemmas.Bool.{both_ways}
use Rattle.read_zones.proofs.BackLemmas.{refused_shown}
use Rattle.read_zones.proofs.tree.refused_zone.Goals as goal

-- no point is asked for
pub play_shown-requires-clause-points : goal.play_shown-requires-clause-points
play_shown-requires-clause-points c = λ q inside. absurd (both_ways (set.contains c.new.result q)
    (ap (λ s. set.contains s q) c.new.ensures ∙ set.contains-empty nat_cmp q) inside)

-- it cannot be made wherever it looks the same
pub returns-in-None-clause-zone : goal.returns-in-None-clause-zone
returns-in-None-clause-zone c = grind (arith, refused_shown)
