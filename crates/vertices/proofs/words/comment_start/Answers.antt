use Rattle.std.proofs.Common.{eqb, eq-eqb, arith}
use Rattle.vertices.specs.Words.{hash}
use Rattle.vertices.proofs.WordLemmas.{found_first, found_none}
use Rattle.vertices.proofs.words.comment_start.Goals as goal

-- this is the first `#`
pub returns-then-b-eq35-clause-first : goal.returns-then-b-eq35-clause-first
returns-then-b-eq35-clause-first c = grind (arith, found_first, eq-eqb)

-- there is none
pub returns-clause-first : goal.returns-clause-first
returns-clause-first c = found_none (λ b. eqb b hash) c.args.line.now c.loop-i.i c.loop-i-test.false c.loop-i.invariant
