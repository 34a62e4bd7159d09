use Rattle.go_rules.proofs.Paths.{IsInString-from_test, is_is_in_string-from_fact, IsLiberty-from_test}
use Rattle.go_rules.proofs.Paths.{is_liberty-from_fact}
use Rattle.go_rules.proofs.laws.strings_are_by_paths.Goals as goal

-- the test of a string is the path
pub returns-clause-string : goal.returns-clause-string
returns-clause-string c = λ s cells p q h. (IsInString-from_test s cells p q, is_is_in_string-from_fact s cells p q h)

-- the test of a liberty is the neighbour
pub returns-clause-liberty : goal.returns-clause-liberty
returns-clause-liberty c = λ s cells p l h. (IsLiberty-from_test s cells p l, is_liberty-from_fact s cells p l h)
