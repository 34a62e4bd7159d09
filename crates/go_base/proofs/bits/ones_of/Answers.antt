use Rattle.go_base.proofs.CountedWords.{word_counted}
use Rattle.go_base.proofs.bits.ones_of.Goals as goal

-- each bit that is set counts once
pub returns : goal.returns
returns c = word_counted c.args.word c.ranges.word.fits
