use Rattle.std.proofs.Common.{arith}
use Rattle.vertices.proofs.NumberLemmas.{digits_more, number_more, not_number}
use Rattle.vertices.proofs.numbers.number.Goals as goal

-- a byte is no digit
pub returns-then-not-is_ascii_digit : goal.returns-then-not-is_ascii_digit
returns-then-not-is_ascii_digit c = grind (arith, not_number)

-- one more digit is read
pub loop-b-preserved : goal.loop-b-preserved
loop-b-preserved c = grind (arith, digits_more, number_more)
