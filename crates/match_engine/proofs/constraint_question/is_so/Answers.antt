use Rattle.match_engine.specs.Readings.{codes_of}
use Rattle.match_engine.proofs.ConstraintPoints.{constraint_placed}
use Rattle.match_engine.proofs.constraint_question.is_so.Goals as goal

-- each argument is a pass, has no point, or has one on the board
pub eval-requires-clause-placed : goal.eval-requires-clause-placed
eval-requires-clause-placed c =
    constraint_placed (codes_of c.args.readings.now) c.args.p.now c.args.position.now c.args.friend
    c.args.z.now.transform c.args.z.now.at c.requires.on_board c.args.constraint.now
