use Rattle.move_choice.specs.Choice.{worth_at, choice_of}
use Rattle.move_choice.proofs.Choices.{choice-words, no-choice}
use Rattle.move_choice.proofs.laws.choice_is_in_words.Goals as goal

-- the first of the greatest worth
pub returns-clause-choice : goal.returns-clause-choice
unfolding choice_of
returns-clause-choice c = λ patterns zs z. choice-words (worth_at patterns) zs z

-- one of several is chosen
pub returns-clause-none : goal.returns-clause-none
unfolding choice_of
returns-clause-none c = λ patterns zs. no-choice (worth_at patterns) zs
