use Rattle.std.proofs.Common.{arith}
use Rattle.std.proofs.lemmas.Bool.{ltb-true}
use Rattle.go_base.proofs.UsedWords.{is_marked-at}
use Rattle.go_base.proofs.bits.PointBits.has_word.Goals as goal

-- the lowest bit of the word is that of a point
pub returns-clause-some : goal.returns-clause-some
returns-clause-some c = grind (arith, is_marked-at c.self.inside.words c.args.word, ltb-true)
