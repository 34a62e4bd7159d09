use Rattle.trial_board.proofs.ChangedLemmas.{tells_put}
use Rattle.trial_board.proofs.changes.Changes.note.Goals as goal

-- what was put there is told
pub returns-in-Put-clause-touched : goal.returns-in-Put-clause-touched
returns-in-Put-clause-touched c = λ touched tells.
    tells_put c.args.p c.in-Put.cell tells c.in-Put.is c.put.ensures.here c.put.ensures.elsewhere
