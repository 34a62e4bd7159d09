use Rattle.std.proofs.Common.{◌*◌, ◌/◌, ◌%◌, ◌+◌, ap}
use Rattle.dfa_match.specs.Steps.{anchor_at_corner}
use Rattle.dfa_match.proofs.cursor.anchor_at.Goals as goal

-- the row and the column are those of the corner
pub returns : goal.returns
unfolding anchor_at_corner
returns c = ap (λ s. c.args.corner / 73 * s + c.args.corner % 73) c.get.ensures.value
