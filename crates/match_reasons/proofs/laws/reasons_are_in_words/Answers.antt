use Rattle.match_reasons.proofs.InWords.{first_in_words}
use Rattle.match_reasons.proofs.laws.reasons_are_in_words.Goals as goal

-- each part in turn
pub returns : goal.returns
returns c = first_in_words
