-- The three parts of the first proof of code 0, where they are the same.
use Rattle.std.proofs.Common.{◌∙◌, [], ap, Ok, Err}
use Rattle.read_tree.specs.Allowances.{all_three, has_some}
use Rattle.read_proof.specs.ProofOf.{claim_under}
use Rattle.write_proof.specs.Printed.{position_on}
use Rattle.write_proof.specs.Alike.{claim_words, PutsAlike}
use Rattle.write_proof.proofs.AlikeLemmas.{alike_put, alike_refused}
use Rattle.write_proof.proofs.first.alike_words.Given.{Over}
use Rattle.write_proof.proofs.first.alike_words.Goals as goal
use Rattle.write_proof.proofs.first.alike_words.Goals.{After-write_claim}

-- all three allowances are asked for
pub write_claim-requires-clause-some : goal.write_claim-requires-clause-some
write_claim-requires-clause-some g c = ap has_some c.all.ensures

-- the part that was written is the same under each
part_put : (g : Over) (c : After-write_claim g) → PutsAlike all_three [] (claim_words c.args.question.now
    (position_on g.L.Look.shows c.args.board.now) (claim_under c.args.question.now 0 3)) c.write_claim.new.out
    c.write_claim.result
part_put g c = rw (c.new-part.ensures, c.all.ensures, c.claim_under-won.ensures) at c.write_claim.ensures.puts

-- the part was written, and it stands three times
pub returns-in-Ok-clause-puts : goal.returns-in-Ok-clause-puts
returns-in-Ok-clause-puts g c = λ same.
    alike_put c.args.question.now (position_on g.L.Look.shows c.args.board.now) c.args.out.now c.write_claim.new.out
    c.put_thrice.new.out c.write_claim.result (Ok c.in-Ok.field-0)
    (c.in-Ok-true.is ∙ ap Ok c.in-Ok-true.field-0-test)
    (part_put g (goal.at.returns-in-Ok-clause-puts g c).After-write_claim)
    (rw c.as_slice.ensures at c.in-Ok.ensures)

-- it would be too long three times
pub returns-in-Err-put_thrice-clause-puts : goal.returns-in-Err-put_thrice-clause-puts
returns-in-Err-put_thrice-clause-puts g c = λ same.
    alike_put c.args.question.now (position_on g.L.Look.shows c.args.board.now) c.args.out.now c.write_claim.new.out
    c.put_thrice.new.out c.write_claim.result (Err c.in-Err-put_thrice.why)
    (c.in-Ok-true.is ∙ ap Ok c.in-Ok-true.field-0-test)
    (part_put g (goal.at.returns-in-Err-put_thrice-clause-puts g c).After-write_claim)
    (rw c.as_slice.ensures at c.in-Err-put_thrice.ensures)

-- the part alone was too long
pub returns-in-Err-clause-puts : goal.returns-in-Err-clause-puts
returns-in-Err-clause-puts g c = λ same.
    alike_refused c.args.question.now (position_on g.L.Look.shows c.args.board.now) c.args.out.now
    c.write_claim.new.out c.args.out.now c.in-Err.why c.write_claim.result c.in-Err.is
    (part_put g (goal.at.returns-in-Err-clause-puts g c).After-write_claim)
