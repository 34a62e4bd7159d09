use Rattle.move_choice.specs.Worth.{worth_of}
use Rattle.move_choice.proofs.Worths.{first-words}
use Rattle.move_choice.proofs.laws.worth_is_in_words.Goals as goal

-- the first number that an item says
pub returns : goal.returns
unfolding worth_of
returns c = λ pattern n. first-words pattern.items n
