use Rattle.match_misfit.proofs.InWords.{is_misfit_in_words}
use Rattle.match_misfit.proofs.laws.misfits_are_in_words.Goals as goal

-- the cell that is told of is one that fails the test
pub returns : goal.returns
returns c = is_misfit_in_words
