use Rattle.match_rules.proofs.InWords.{fits-true, fits-from}
use Rattle.match_rules.proofs.laws.fits_are_in_words.Goals as goal

-- by the cells, one after another
pub returns : goal.returns
returns c = λ p board friend t m. (fits-true p board friend t m, fits-from p board friend t m)
