use Rattle.wider_rules.proofs.FurtherPlaces.{further_empty, further_of_none}
use Rattle.wider_rules.proofs.laws.further_candidates_are_empty_points.Goals as goal

-- a further candidate is on the board
pub returns-clause-on_board : goal.returns-clause-on_board
returns-clause-on_board c = λ wide attacker s cells target p on h.
    (further_empty wide attacker s cells target p on h).0

-- and empty
pub returns-clause-is_empty : goal.returns-clause-is_empty
returns-clause-is_empty c = λ wide attacker s cells target p on h.
    (further_empty wide attacker s cells target p on h).1

-- an empty point has none
pub returns-clause-of_a_stone : goal.returns-clause-of_a_stone
returns-clause-of_a_stone c = further_of_none
