-- The codes of a sure answer.
use Rattle.sure_rules.proofs.SureCodes.{attack_attains, defend_attains, three_gives_two, two_gives_one}
use Rattle.sure_rules.proofs.SureCodes.{sure_code_greatest, sure_answer_another, code-sure_answer_of, sure_no_move}
use Rattle.sure_rules.proofs.SureCodes.{sure_answer_first}
use Rattle.sure_rules.proofs.laws.sure_answers_are_by_codes.Goals as goal

-- an attack attains code 3 if it is sure though the defender may ignore the ban once
pub returns-clause-attack_3 : goal.returns-clause-attack_3
returns-clause-attack_3 c = λ q pos k. (attack_attains q pos k).0

-- an attack attains code 2 if it is sure with no allowance on either side
pub returns-clause-attack_2 : goal.returns-clause-attack_2
returns-clause-attack_2 c = λ q pos k. (attack_attains q pos k).1

-- an attack attains code 1 if it is sure once the attacker may ignore the ban
pub returns-clause-attack_1 : goal.returns-clause-attack_1
returns-clause-attack_1 c = λ q pos k. (attack_attains q pos k).2

-- a defence attains code 3 if the capture is not sure though the attacker may ignore the ban once
pub returns-clause-defend_3 : goal.returns-clause-defend_3
returns-clause-defend_3 c = λ q pos k. (defend_attains q pos k).0

-- a defence attains code 2 if the capture is not sure with no allowance on either side
pub returns-clause-defend_2 : goal.returns-clause-defend_2
returns-clause-defend_2 c = λ q pos k. (defend_attains q pos k).1

-- a defence attains code 1 if the capture is not sure once the defender may ignore the ban
pub returns-clause-defend_1 : goal.returns-clause-defend_1
returns-clause-defend_1 c = λ q pos k. (defend_attains q pos k).2

-- what attains code 3 attains code 2
pub returns-clause-three_in_two : goal.returns-clause-three_in_two
returns-clause-three_in_two c = three_gives_two

-- what attains code 2 attains code 1
pub returns-clause-two_in_one : goal.returns-clause-two_in_one
returns-clause-two_in_one c = two_gives_one

-- the code is the greatest that is attained
pub returns-clause-greatest : goal.returns-clause-greatest
returns-clause-greatest c = sure_code_greatest

-- a question about another position has code 0 and no move
pub returns-clause-another : goal.returns-clause-another
returns-clause-another c = sure_answer_another

-- the answer has the code of the question
pub returns-clause-code : goal.returns-clause-code
returns-clause-code c = code-sure_answer_of

-- code 0 comes without a move
pub returns-clause-no_move : goal.returns-clause-no_move
returns-clause-no_move c = sure_no_move

-- any other code comes with the first move that attains it
pub returns-clause-first_move : goal.returns-clause-first_move
returns-clause-first_move c = sure_answer_first
