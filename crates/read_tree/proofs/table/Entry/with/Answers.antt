use Rattle.std.proofs.Common.{arith}
use Rattle.read_tree.proofs.KnownPliesLemmas.{of_three}
use Rattle.read_tree.proofs.TableLemmas.{learnt_true}
use Rattle.read_tree.proofs.table.Entry.with.Goals as goal

-- each allowance by what was found under it
pub returns : goal.returns
returns c = grind (arith, learnt_true, of_three)
