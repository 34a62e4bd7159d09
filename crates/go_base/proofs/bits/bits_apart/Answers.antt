use Rattle.go_base.proofs.MadeWords.{bit_apart}
use Rattle.go_base.proofs.bits.bits_apart.Goals as goal

-- a bit is left exactly if the word has it and the other not
pub returns : goal.returns
returns c = λ k low. bit_apart c.args.word c.args.other k c.ranges.other.fits low
