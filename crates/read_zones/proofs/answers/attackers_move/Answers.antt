-- The attacker's candidates are the points that he tries.
use Rattle.std.proofs.Common.{arith}
use Rattle.std.proofs.lemmas.Bool.{both_ways}
use Rattle.sure_rules.proofs.SureLemmas.{tried_candidate}
use Rattle.read_zones.proofs.TreeLemmas.{agree_self}
use Rattle.read_zones.proofs.answers.attackers_move.Goals as goal

-- the target has too many liberties
pub returns-in_err-shown-clause-first : goal.returns-in_err-shown-clause-first
returns-in_err-shown-clause-first c = grind arith

-- the candidates are tried
pub first_of-requires-clause-tried : goal.first_of-requires-clause-tried
first_of-requires-clause-tried c = grind (arith, tried_candidate, agree_self)

-- no other point is
pub first_of-requires-clause-others : goal.first_of-requires-clause-others
first_of-requires-clause-others c = grind (arith, both_ways, agree_self, tried_candidate)

-- a point is the first move
pub returns-in-Some-clause-first : goal.returns-in-Some-clause-first
returns-in-Some-clause-first c = grind (arith, agree_self)

-- there is none
pub returns-in-None-clause-first : goal.returns-in-None-clause-first
returns-in-None-clause-first c = grind (arith, agree_self)
