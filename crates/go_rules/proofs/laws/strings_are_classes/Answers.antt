use Rattle.go_rules.proofs.InWords.{string_itself, string_back_in_words, string_onward, string_of_one_colour}
use Rattle.go_rules.proofs.Links.{liberty_moves}
use Rattle.go_rules.proofs.laws.strings_are_classes.Goals as goal

-- a stone is of its own string
pub returns-clause-itself : goal.returns-clause-itself
returns-clause-itself c = string_itself

-- a path leads back
pub returns-clause-back : goal.returns-clause-back
returns-clause-back c = string_back_in_words

-- paths lead on
pub returns-clause-onward : goal.returns-clause-onward
returns-clause-onward c = string_onward

-- a path stays on one colour
pub returns-clause-one_colour : goal.returns-clause-one_colour
returns-clause-one_colour c = string_of_one_colour

-- a liberty of a stone is one of its string
pub returns-clause-same_liberties : goal.returns-clause-same_liberties
returns-clause-same_liberties c = liberty_moves
