use Rattle.connect_rules.proofs.MoveLemmas.{move_gives, move_from, move_on}
use Rattle.connect_rules.proofs.laws.connecting_moves_are_by_strings.Goals as goal

-- the test for a connecting move and the four sets of the rules are one
pub returns-clause-connecting : goal.returns-clause-connecting
returns-clause-connecting c = λ link pos p a_on b_on. (move_gives link pos p, move_from link pos p a_on b_on)

-- each connecting move lies on the board
pub returns-clause-on_board : goal.returns-clause-on_board
returns-clause-on_board c = move_on
