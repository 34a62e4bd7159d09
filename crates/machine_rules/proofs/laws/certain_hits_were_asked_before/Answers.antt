-- Nothing changes between a question and the same one right after it, and nothing stands before a first line.
use Rattle.std.proofs.Common.{◌≡◌, List, [], ◌∷◌, ◌++◌, arith}
use Rattle.machine_rules.proofs.laws.certain_hits_were_asked_before.Goals as goal

-- no list with an element is empty
never_empty : {X : Type 0} (xs : List X) (y : X) (ys : List X) → [] ≡ xs ++ y ∷ ys → ⊥
never_empty [] y ys none = cc
never_empty (x ∷ xs) y ys none = cc

-- a line that asks a question is a certain hit where it comes again at once to an equal machine
pub returns-clause-again : goal.returns-clause-again
returns-clause-again c = grind arith

-- the first line of a session is no certain hit
pub returns-clause-first : goal.returns-clause-first
returns-clause-first c = λ turn hit. never_empty hit.first hit.earlier hit.between hit.place
