use Rattle.std.proofs.Common.{◌∙◌, Bool, ap, arith}
use Rattle.read_tree.specs.Allowances.{has_some}
use Rattle.write_proof.specs.Printed.{Puts, position_on}
use Rattle.write_proof.proofs.PutLemmas.{part}
use Rattle.write_proof.proofs.AlikeLemmas.{only_some, one_put, part_claim, puts_why}
use Rattle.write_proof.proofs.codes.write_under.Given.{Over}
use Rattle.write_proof.proofs.codes.write_under.Goals as goal
use Rattle.write_proof.proofs.codes.write_under.Goals.{After-write_claim}

-- an allowance is asked for
pub write_claim-requires-clause-some : goal.write_claim-requires-clause-some
write_claim-requires-clause-some g c = ap has_some c.allowance_under-asked.ensures ∙ only_some _

-- the claim was put, or why it was not
claim_put : (g : Over) (c : After-write_claim g) → Puts c.args.out.now
    (part c.args.question.now (position_on g.L.Look.shows c.args.board.now) c.args.code c.args.more)
    c.write_claim.new.out c.write_claim.result
claim_put g c = grind (arith, part_claim, one_put)

-- it was put
pub returns-in-Ok-clause-puts : goal.returns-in-Ok-clause-puts
returns-in-Ok-clause-puts g c = grind (arith, claim_put g (goal.at.returns-in-Ok-clause-puts g c).After-write_claim)

-- it was not
pub returns-in-Err-clause-puts : goal.returns-in-Err-clause-puts
returns-in-Err-clause-puts g c = puts_why Bool (Unit {0}) c.args.out.now _ c.write_claim.new.out c.in-Err.why
    (rw c.in-Err.is at (claim_put g (goal.at.returns-in-Err-clause-puts g c).After-write_claim))
