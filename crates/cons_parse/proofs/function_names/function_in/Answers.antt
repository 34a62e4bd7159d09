-- What is found among the rows of the code is found among the rows that are seen.
use Rattle.std.proofs.Common.{◌∙◌}
use Rattle.std.specs.Str.{bytes_eq}
use Rattle.cons_parse.specs.CodeRows.{row_seen}
use Rattle.cons_parse.proofs.FunctionRows.{find-seen}
use Rattle.cons_parse.proofs.function_names.function_in.Goals as goal

-- a row of the code is seen with its name and its function
pub returns : goal.returns
returns c = c.first_function.ensures ∙ find-seen row_seen (λ n. bytes_eq c.args.name.now n) c.args.rows.now
