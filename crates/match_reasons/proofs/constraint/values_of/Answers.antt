use Rattle.match_reasons.specs.FreshReadings.{fresh_codes}
use Rattle.match_reasons.proofs.ConstraintPoints.{constraint_placed}
use Rattle.match_reasons.proofs.constraint.values_of.Goals as goal

-- each argument is a pass, has no point, or has one on the board
pub values-requires-clause-placed : goal.values-requires-clause-placed
values-requires-clause-placed c =
    constraint_placed (fresh_codes c.args.depths) c.args.p.now c.args.position.now c.args.friend c.args.t c.args.at
    c.requires.on_board c.args.constraint.now
