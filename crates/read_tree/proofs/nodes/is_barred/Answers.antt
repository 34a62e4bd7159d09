-- The liberties that were found are the target's.
use Rattle.std.proofs.Common.{◌∙◌, arith}
use Rattle.std.proofs.lemmas.Bool.{not-true, not-false}
use Rattle.trial_board.specs.Trials.{after}
use Rattle.trial_board.proofs.AfterLemmas.{size-after}
use Rattle.read_tree.proofs.StageLemmas.{its_count}
use Rattle.read_tree.proofs.NodeLemmas.{barred_by, not_barred}
use Rattle.read_tree.proofs.nodes.is_barred.Goals as goal

-- it is the defender's turn
pub returns-then-not-node-clause-over : goal.returns-then-not-node-clause-over
returns-then-not-node-clause-over g c = grind (arith, not_barred, not-true)

-- it is the attacker's
pub returns-clause-over : goal.returns-clause-over
returns-clause-over g c = λ pos a.
    let here = after pos c.args.board.now.moves in
    c.has_many.ensures ∙ barred_by c.args.node here c.count.result
    (not-false c.args.node.turn.attacker_to_play c.if-not-node.false)
    (c.count.ensures.value ∙ its_count pos.size here c.args.node.turn.target c.liberties.result
    (size-after pos c.args.board.now.moves) (c.liberties.ensures.over pos a))
