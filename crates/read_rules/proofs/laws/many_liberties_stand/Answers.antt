use Rattle.std.proofs.Common.{arith}
use Rattle.read_rules.proofs.LibertyLemmas.{play_takes_one, bounded, too_many-gives, too_many-from, many_too_many}
use Rattle.read_rules.proofs.laws.many_liberties_stand.Goals as goal

-- a play takes away one liberty of a string at most
pub returns-clause-one_liberty : goal.returns-clause-one_liberty
returns-clause-one_liberty c = play_takes_one

-- the test and the bound in words are one
pub returns-clause-too_many : goal.returns-clause-too_many
returns-clause-too_many c = grind (arith, too_many-gives, too_many-from)

-- a target with too many liberties is not captured
pub returns-clause-stands : goal.returns-clause-stands
returns-clause-stands c = λ n node pos on h. bounded n node pos on (too_many-from _ _ _ _ _ h)

-- a target that the attacker may not play at has too many
pub returns-clause-many : goal.returns-clause-many
returns-clause-many c = many_too_many
