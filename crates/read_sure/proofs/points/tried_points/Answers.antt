-- The attacker's points are the candidates, and the defender's those of the board.
use Rattle.std.proofs.Common.{nat_lt, arith}
use Rattle.std.proofs.lemmas.Bool.{ltb-true}
use Rattle.trial_board.proofs.AfterLemmas.{size-after}
use Rattle.read_tree.proofs.ReadyLemmas.{candidate_inside}
use Rattle.sure_rules.proofs.SureLemmas.{tried_candidate, tried_anywhere}
use Rattle.read_sure.proofs.points.tried_points.Goals as goal

-- a candidate is a point of the board
pub returns-then-node-clause-on_board : goal.returns-then-node-clause-on_board
returns-then-node-clause-on_board g c = grind (arith, candidate_inside)

-- the candidates are what the attacker tries
pub returns-then-node-clause-over : goal.returns-then-node-clause-over
returns-then-node-clause-over g c = grind (arith, tried_candidate)

-- a point of the board is on it
pub returns-clause-on_board : goal.returns-clause-on_board
returns-clause-on_board g c = grind (arith, ltb-true, nat_lt)

-- the board has the same size on each position that agrees
pub returns-clause-over : goal.returns-clause-over
returns-clause-over g c = grind (arith, nat_lt, size-after, tried_anywhere)
