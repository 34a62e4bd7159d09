-- The letter of the column and the digits of the row are the vertex.
use Rattle.std.proofs.Common.{arith}
use Rattle.session_core.proofs.Texts.{vertex-one_digit, vertex-two_digits}
use Rattle.session_core.proofs.point_lists.push_vertex.Goals as goal

-- the row has one digit
pub returns-then-number-lt10 : goal.returns-then-number-lt10
returns-then-number-lt10 c = grind (arith, vertex-one_digit)

-- the row has two digits
pub returns : goal.returns
returns c = grind (arith, vertex-two_digits)
