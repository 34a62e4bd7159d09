use Rattle.trial_board.specs.Trials.{after}
use Rattle.read_tree.proofs.BoundLemmas.{TellsLiberties-all}
use Rattle.read_tree.proofs.tree.liberties_known.Goals as goal

-- the liberties that are known are all of the target's
pub returns-in-Some-clause-over : goal.returns-in-Some-clause-over
returns-in-Some-clause-over g c = λ pos a.
    TellsLiberties-all c.args.turn c.args.plies pos.size (after pos c.args.board.now.moves).cells c.in-Some.found
    ((rw c.in-Some.is at c.requires.liberties) pos a)
