use Rattle.std.proofs.Common.{arith}
use Rattle.go_base.proofs.CountedWords.{noted_next, noted_passed}
use Rattle.go_base.proofs.bits.PointBits.words_in_use.Goals as goal
use Rattle.go_base.proofs.bits.PointBits.words_in_use.Goals.{then-has_word, else-has_word}

-- one word more is noted if it has a bit
pub loop-i-preserved : goal.loop-i-preserved
loop-i-preserved c = elim c.if-has_word.branch [
  | then-has_word w ↦ grind (arith, noted_next c.args.self.now c.loop-i.i c.loop-i.used)
  | else-has_word w ↦ grind (arith, noted_passed)
]
