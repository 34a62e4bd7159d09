-- A transformation has one digit.
use Rattle.std.proofs.Common.{arith}
use Rattle.std.proofs.lemmas.Fmt.{decimal_digit}
use Rattle.session_core.proofs.match_text.push_transform.Goals as goal

-- the digit stands between blanks
pub returns : goal.returns
returns c = grind (arith, decimal_digit)
