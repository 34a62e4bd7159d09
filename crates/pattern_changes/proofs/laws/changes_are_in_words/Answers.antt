use Rattle.pattern_changes.proofs.InWords.{over-has, over-from}
use Rattle.pattern_changes.proofs.laws.changes_are_in_words.Goals as goal

-- by the positions, the friends, and the matches that a list lacks
pub returns : goal.returns
returns c = λ code advice old new friends boards change. (
  over-has code advice old new friends boards change,
  over-from code advice old new friends boards change,
)
