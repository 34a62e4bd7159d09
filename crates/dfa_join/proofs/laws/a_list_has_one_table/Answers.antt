use Rattle.dfa_join.proofs.OneTable.{one_table}
use Rattle.dfa_join.proofs.laws.a_list_has_one_table.Goals as goal

-- two tables of one list have the same rows
pub returns : goal.returns
returns c = one_table
