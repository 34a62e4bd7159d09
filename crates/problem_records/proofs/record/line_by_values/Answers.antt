-- The line that counts asks the question.
use Rattle.std.proofs.Common.{◌≡◌, Ok, Some, rules}
use Rattle.problem_records.specs.Nodes.{all_shown}
use Rattle.problem_records.specs.Asked.{line_in}
use Rattle.problem_records.specs.Found.{IsInLine}
use Rattle.problem_records.proofs.Outcomes.{by_line}
use Rattle.problem_records.proofs.record.line_by_values.Goals as goal

-- by the line
pub returns-in-Some : goal.returns-in-Some
returns-in-Some c =
    let counts : line_in (all_shown c.args.values.now) ≡ Ok (Some c.in-Some.line.now) =
    first_of (search rules, cc) in
    let asks : IsInLine c.args.position.now.size c.in-Some.line.now c.line_of.result =
    first_of (search rules, cc) in
    by_line c.args.position.now (all_shown c.args.values.now) c.args.usual c.in-Some.line.now c.line_of.result counts
    asks
