-- Two points in one string, by the set of its stones.
use Rattle.std.proofs.Common.{arith}
use Rattle.std.specs.FinSet as set
use Rattle.cons_eval.proofs.Strings.{contains-string_at}
use Rattle.cons_eval.proofs.rules.is_same_string.Goals as goal

-- the second point is a member of the string of the first
pub returns : goal.returns
returns c = grind (arith, contains-string_at)
