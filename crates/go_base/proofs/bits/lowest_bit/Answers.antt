use Rattle.std.proofs.Common.{arith}
use Rattle.go_base.proofs.Lowest.{nothing_left, lowest_from}
use Rattle.go_base.proofs.bits.lowest_bit.Goals as goal

-- nothing is left of the word
pub returns-then-rest-eq0-clause-misses : goal.returns-then-rest-eq0-clause-misses
returns-then-rest-eq0-clause-misses c = λ k l m. nothing_left c.args.word c.args.from c.if-rest-eq0.true k l

-- the place is that of the lowest bit of what is left
pub returns-clause-bound : goal.returns-clause-bound
returns-clause-bound c = grind (arith, lowest_from)

-- its bit is marked
pub returns-clause-hit : goal.returns-clause-hit
returns-clause-hit c = λ l. (lowest_from c.args.word c.args.from c.ranges.word.fits (omega arith)).hit

-- no bit below it is
pub returns-clause-misses : goal.returns-clause-misses
returns-clause-misses c = (lowest_from c.args.word c.args.from c.ranges.word.fits (omega arith)).misses
