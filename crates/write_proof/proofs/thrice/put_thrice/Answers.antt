use Rattle.std.proofs.Common.{◌++◌, arith}
use Rattle.write_proof.proofs.PutLemmas.{puts_both, puts_up}
use Rattle.write_proof.proofs.thrice.put_thrice.Goals as goal

-- there is no room for the part once
pub returns-in_err-put : goal.returns-in_err-put
returns-in_err-put c =
    let part = c.args.part.now in
    puts_up c.args.out.now c.put.new.out c.put.new.out part (part ++ part) c.in_err-put.field-0.0
    c.from_residual.result c.from_residual.ensures.1 c.in_err-put.ensures

-- nor twice
pub returns-in_err-put-2 : goal.returns-in_err-put-2
returns-in_err-put-2 c =
    let part = c.args.part.now in
    puts_both c.args.out.now c.put.new.out c.put-2.new.out part (part ++ part) c.from_residual-in_err-put-2.result
    c.in_ok-put.ensures.0
    (puts_up c.put.new.out c.put-2.new.out c.put-2.new.out part part c.in_err-put-2.field-0.0
    c.from_residual-in_err-put-2.result c.from_residual-in_err-put-2.ensures.1 c.in_err-put-2.ensures)

-- the third stands behind the two
pub returns : goal.returns
returns c = grind (arith, puts_both)
