-- The empty neighbours of the liberties are Net if these are three, and else Net is empty.
use Rattle.std.proofs.Common.{◌∙◌}
use Rattle.trial_board.specs.Trials.{after}
use Rattle.wider_rules.proofs.SetLemmas.{net_is, no_net}
use Rattle.wider_moves.proofs.sets.net.Goals as goal

-- there are three
pub returns-then-count-eq-NETTED-clause-over : goal.returns-then-count-eq-NETTED-clause-over
returns-then-count-eq-NETTED-clause-over g c = λ pos a target e p.
    c.sides_of.ensures.over pos a p
    ∙ net_is pos.size (after pos c.args.board.now.moves).cells target c.args.liberties.now c.count.result p e
    c.count.ensures.value c.if-count-eq-NETTED.true

-- there are more or fewer
pub returns-clause-over : goal.returns-clause-over
returns-clause-over g c = λ pos a target e p.
    no_net pos.size (after pos c.args.board.now.moves).cells target c.args.liberties.now c.new.result c.count.result p e
    c.count.ensures.value c.if-count-eq-NETTED.false c.new.ensures
