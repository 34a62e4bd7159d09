use Rattle.go_base.proofs.MadeWords.{common_bit}
use Rattle.go_base.proofs.bits.bits_in_both.Goals as goal

-- a bit is left exactly if both words have it
pub returns : goal.returns
returns c = λ k low. common_bit c.args.word c.args.other k
