use Rattle.trial_board.specs.Trials.{after}
use Rattle.read_tree.proofs.BoundLemmas.{TellsLiberties-most}
use Rattle.read_tree.proofs.outlook.liberties_within.Goals as goal

-- the search ends where it has seen too many
pub returns-clause-over : goal.returns-clause-over
returns-clause-over g c = λ pos a.
    TellsLiberties-most c.args.turn c.args.plies c.most_liberties.result pos.size
    (after pos c.args.board.now.moves).cells _ c.most_liberties.ensures (c.some_liberties.ensures.over pos a)
