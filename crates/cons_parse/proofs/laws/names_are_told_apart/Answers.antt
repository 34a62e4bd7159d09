-- No two names of the table are the same, and each has two bytes or more.
use Rattle.std.proofs.Common.{refl}
use Rattle.cons_parse.specs.FunctionNames.{functions}
use Rattle.cons_parse.proofs.FunctionRows.{found_apart, named_long}
use Rattle.cons_parse.proofs.laws.names_are_told_apart.Goals as goal

-- both are read off the table
pub returns : goal.returns
returns c = named_long functions refl (found_apart functions refl)
