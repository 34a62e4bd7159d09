-- What stands around a string with few liberties came, and nothing of one with many.
use Rattle.std.proofs.Common.{arith}
use Rattle.wider_rules.proofs.StringLemmas.{few_liberties, many_liberties, few_enemies, many_enemies}
use Rattle.read_proof.proofs.strings.add_string.Goals as goal

-- its liberties came
pub returns-then-are_between-clause-liberties : goal.returns-then-are_between-clause-liberties
returns-then-are_between-clause-liberties c = grind (arith, few_liberties)

-- and the enemies next to it
pub returns-then-are_between-clause-enemies : goal.returns-then-are_between-clause-enemies
returns-then-are_between-clause-enemies c = grind (arith, few_enemies)

-- none of many liberties came
pub returns-else-are_between-clause-liberties : goal.returns-else-are_between-clause-liberties
returns-else-are_between-clause-liberties c = grind (arith, many_liberties)

-- nor an enemy next to it
pub returns-else-are_between-clause-enemies : goal.returns-else-are_between-clause-enemies
returns-else-are_between-clause-enemies c = grind (arith, many_enemies)
