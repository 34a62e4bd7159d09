-- What comes of the first node comes of the record.
use Rattle.std.proofs.Common.{Err, ap, ◌∙◌}
use Rattle.std.proofs.lemmas.Result.{err_from_is_err_and}
use Rattle.problem_records.specs.declared.lack.ProblemError.{ProblemError}
use Rattle.problem_records.specs.Nodes.{first_node, named_values}
use Rattle.problem_records.proofs.Outcomes.{told_lack, by_position}
use Rattle.problem_records.proofs.record.problem_on.Goals as goal

-- what the first node lacks is told
pub returns-in_err-line-clause-outcome : goal.returns-in_err-line-clause-outcome
returns-in_err-line-clause-outcome c =
    let told = err_from_is_err_and c.from_residual.result c.from_residual.ensures.1 in
    told_lack c.args.position (named_values (first_node c.args.text.now)) c.args.usual c.in_err-line.field-0.0
    c.from_residual.result (told.1 ∙ ap (λ (e : ProblemError). Err e) told.2) c.in_err-line.ensures

-- the line is that of a problem, or no stone stands at its point
pub returns-clause-outcome : goal.returns-clause-outcome
returns-clause-outcome c =
    by_position c.args.position (named_values (first_node c.args.text.now)) c.args.usual c.in_ok-line.line
    c.problem_by_line.result c.in_ok-line.ensures c.problem_by_line.ensures
