-- The code that is found is the question's.
use Rattle.std.proofs.Common.{◌≡◌, subst}
use Rattle.go_rules.specs.Position.{BoardState}
use Rattle.problem_verdicts.specs.Questions.{code_of}
use Rattle.problem_verdicts.proofs.judged.find.Goals as goal

-- the code of the moves, whatever their scope, on the position that is watched
pub is_needless-requires-clause-code : goal.is_needless-requires-clause-code
is_needless-requires-clause-code c =
    subst (λ (pos : BoardState). c.moves_of-all.result.code ≡ code_of pos c.args.kind c.args.target c.args.depths)
    c.new.ensures.shows c.moves_of-all.ensures.greatest
