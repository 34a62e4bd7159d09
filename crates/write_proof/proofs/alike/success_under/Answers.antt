use Rattle.std.proofs.Common.{arith}
use Rattle.read_tree.proofs.AllowanceLemmas.{none_of, has-without}
use Rattle.read_tree.proofs.TableLemmas.{has_both}
use Rattle.read_tree.proofs.AllowanceLemmas.{in_other}
use Rattle.write_proof.proofs.AlikeLemmas.{not_both, told_one}
use Rattle.write_proof.proofs.alike.success_under.Goals as goal

-- none is left without those
pub returns-then-not-has_some-clause-success : goal.returns-then-not-has_some-clause-success
returns-then-not-has_some-clause-success c = grind (arith, in_other, has-without, none_of)

-- of one allowance some alone cannot be told
pub returns-then-has_some-clause-one : goal.returns-then-has_some-clause-one
returns-then-has_some-clause-one c = grind (arith, told_one)

-- none of those is asked for
pub returns-clause-success : goal.returns-clause-success
returns-clause-success c = grind (arith, not_both, has_both, none_of)
