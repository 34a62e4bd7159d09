use Rattle.std.proofs.Common.{arith}
use Rattle.dfa_match.proofs.OpeningNumbers.{letter_tag}
use Rattle.dfa_match.proofs.TurnedRings.{opening_turned}
use Rattle.dfa_match.proofs.rings.opening_number.Goals as goal

-- the anchor's letter stands before the letters of the ring, which was turned
pub returns : goal.returns
returns c letters steps w are seen is = grind (arith, letter_tag, opening_turned)
