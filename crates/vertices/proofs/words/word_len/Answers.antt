use Rattle.std.proofs.Common.{arith}
use Rattle.vertices.specs.RawWords.{is_parting}
use Rattle.vertices.proofs.WordLemmas.{found_first, found_none}
use Rattle.vertices.proofs.words.word_len.Goals as goal

-- this is the first byte that parts words
pub returns-then-is_separator-clause-first : goal.returns-then-is_separator-clause-first
returns-then-is_separator-clause-first c = grind (arith, found_first)

-- there is none
pub returns-clause-first : goal.returns-clause-first
returns-clause-first c = found_none is_parting c.args.text.now c.loop-i.i c.loop-i-test.false c.loop-i.invariant
