use Rattle.std.proofs.Common.{arith}
use Rattle.read_tree.proofs.KnownPliesLemmas.{of_three}
use Rattle.read_tree.proofs.TableLemmas.{told_true}
use Rattle.read_tree.proofs.table.Entry.with_plies.Goals as goal

-- each allowance by what is known under it
pub returns : goal.returns
returns c = grind (arith, told_true, of_three)
