use Rattle.go_rules.proofs.PlayLaws.{position_in_words, position_by_words, replayed_in_words}
use Rattle.go_rules.proofs.laws.positions_are_in_words.Goals as goal

-- the counts of liberties are liberties
pub returns-clause-words : goal.returns-clause-words
returns-clause-words c = λ pos. (position_in_words pos, position_by_words pos)

-- a legal game keeps positions
pub returns-clause-game : goal.returns-clause-game
returns-clause-game c = replayed_in_words
