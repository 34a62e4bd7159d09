-- The attacker does not pass, and the defender's pass holds if after it the target is not surely captured.
use Rattle.read_sure.proofs.SureSteps.{no_pass, pass_made}
use Rattle.problem_verdicts.proofs.sure_moves.pass_holds.Goals as goal

-- it is the attacker's turn
pub returns-then-node : goal.returns-then-node
returns-then-node c = no_pass c.args.plies c.args.node c.args.position.now c.if-node.true

-- it is the defender's
pub returns : goal.returns
returns c =
    pass_made c.args.plies c.args.node c.args.position.now c.surely_wins.result c.if-node.false
    (rw c.passed-new.ensures at c.surely_wins.ensures)
