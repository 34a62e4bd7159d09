use Rattle.go_rules.proofs.InWords.{neighbourhood_of-is, in_neighbourhood_on_board}
use Rattle.go_rules.proofs.laws.neighbourhoods_are_in_words.Goals as goal

-- the test of the neighbourhood is the fact
pub returns-clause-neighbourhood : goal.returns-clause-neighbourhood
returns-clause-neighbourhood c = neighbourhood_of-is

-- each member is on the board
pub returns-clause-on_board : goal.returns-clause-on_board
returns-clause-on_board c = in_neighbourhood_on_board
