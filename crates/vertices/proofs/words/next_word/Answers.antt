use Rattle.std.proofs.Common.{arith}
use Rattle.std.proofs.lemmas.Bool.Decides.{nat_tests}
use Rattle.vertices.proofs.WordLemmas.{next_from}
use Rattle.vertices.proofs.words.next_word.Goals as goal

-- the front of what was not skipped is the first word
pub returns : goal.returns
returns c = grind (arith, next_from, nat_tests)
