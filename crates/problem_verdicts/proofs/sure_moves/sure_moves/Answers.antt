-- No move attains code 0.
use Rattle.std.proofs.Common.{◌∙◌, ◌-◌, ap}
use Rattle.std.specs.FinSet as set
use Rattle.std.specs.Ordering.{nat_cmp}
use Rattle.read_rules.specs.Answer.{first_node}
use Rattle.sure_rules.specs.SureAnswer.{surely_succeeds}
use Rattle.problem_verdicts.specs.SureQuestions.{is_seen}
use Rattle.problem_verdicts.proofs.SureMoveLemmas.{none_attains}
use Rattle.problem_verdicts.proofs.sure_moves.sure_moves.Goals as goal

-- no point is told
pub returns-then-code-eq0-clause-plays : goal.returns-then-code-eq0-clause-plays
returns-then-code-eq0-clause-plays c = λ p.
    let node = first_node c.args.question.now c.args.code in
    let pos = c.args.position.now in
    ap (λ s. set.contains s p) c.none.ensures.1 ∙ set.contains-empty nat_cmp p
    ∙ none_attains (is_seen c.args.scope node pos p) c.args.code
    (surely_succeeds (c.args.question.now.plies - 1) node pos p) c.if-code-eq0.true
