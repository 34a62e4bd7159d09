use Rattle.std.proofs.Common.{arith, ap, length}
use Rattle.workload.proofs.RestLemmas.{none_left}
use Rattle.workload.proofs.rest.Rest.ready.Goals as goal
use Rattle.workload.proofs.rest.Rest.ready.Goals.{else-self-as_slice-via-then-self-as_slice+else-self}
use Rattle.workload.proofs.rest.Rest.ready.Goals.{else-self-as_slice-via-else-self-as_slice}

-- if the last line has no byte left, and it was the last of all, nothing is left
pub returns-else-self-as_slice-clause-some : goal.returns-else-self-as_slice-clause-some
returns-else-self-as_slice-clause-some c = λ done. elim c.else-self-as_slice.branch [
  | else-self-as_slice-via-then-self-as_slice+else-self w ↦
      none_left c.args.self.now.lines c.args.self.now.made c.args.self.now.at c.args.self.now.line (omega arith) done
  | else-self-as_slice-via-else-self-as_slice w ↦ absurd
      (omega (arith, w.if-self-as_slice.false, ap length c.as_slice.ensures))
]
