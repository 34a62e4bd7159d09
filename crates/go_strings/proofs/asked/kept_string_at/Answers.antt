use Rattle.std.proofs.Common.{true, sym, ◌∙◌, arith}
use Rattle.std.proofs.lemmas.Bool.{cases_Bool}
use Rattle.go_rules.proofs.Cells.{cells_same, cells_differ}
use Rattle.go_rules.proofs.Plays.{empty_from}
use Rattle.go_strings.proofs.StringNames.{named_there}
use Rattle.go_strings.proofs.asked.kept_string_at.Goals as goal

-- the point is empty
pub returns-then-eq : goal.returns-then-eq
returns-then-eq c = sym c.cell_on.ensures ∙ cells_same _ _ _ c.eq.ensures c.if-eq.true

-- the string that was read is that of the point
pub returns : goal.returns
returns c = grind (arith, cases_Bool, cells_differ, empty_from, named_there)
