use Rattle.std.proofs.Common.{◌++◌, append_assoc, subst, Err, arith}
use Rattle.go_rules.specs.Position.{BoardState}
use Rattle.write_proof.specs.Printed.{Puts, position_on}
use Rattle.write_proof.proofs.PutLemmas.{puts_both, puts_up, part, whole_three, whole_two, whole_one, whole_first}
use Rattle.write_proof.proofs.PutLemmas.{whole_second}
use Rattle.write_proof.proofs.WriteLemmas.{here_stays}
use Rattle.write_proof.proofs.codes.write_all.Goals as goal

-- there is no room for the part of code 3
pub returns-in_err-write_under : goal.returns-in_err-write_under
returns-in_err-write_under g c =
    let pos = position_on g.L.Look.shows c.args.board.now in
    let first = whole_first c.args.question.now pos c.args.code in
    rw first.1 (puts_up c.args.out.now c.write_under.new.out c.write_under.new.out
    (part c.args.question.now pos c.args.code 3) first.0 c.in_err-write_under.field-0.0
    c.from_residual.result c.from_residual.ensures.1 c.in_err-write_under.ensures.puts)

-- there is none for that of code 2
pub returns-in_err-write_under-2 : goal.returns-in_err-write_under-2
returns-in_err-write_under-2 g c =
    let q = c.args.question.now in
    let pos = position_on g.L.Look.shows c.args.board.now in
    let code = c.args.code in
    let second = whole_second q pos code c.if-code-eq3.false in
    rw second.1 (puts_both c.args.out.now c.write_under.new.out c.write_under-2.new.out (part q pos code 3)
    (part q pos code 2 ++ second.0) c.from_residual-in_err-write_under-2.result c.in_ok-write_under.ensures.puts.0
    (puts_up c.write_under.new.out c.write_under-2.new.out c.write_under-2.new.out (part q pos code 2) second.0
    c.in_err-write_under-2.field-0.0 c.from_residual-in_err-write_under-2.result
    c.from_residual-in_err-write_under-2.ensures.1
    (subst (λ (p : BoardState). Puts {T = Unit {0}} c.write_under.new.out (part q p code 2) c.write_under-2.new.out
    (Err c.in_err-write_under-2.field-0.0))
    (here_stays g.L.Look.shows g.L.Look.seen c.args.board.now c.write_under.new.board c.write_under.ensures.stays)
    c.in_err-write_under-2.ensures.puts)))

-- the code is 3
pub returns-then-code-eq3 : goal.returns-then-code-eq3
returns-then-code-eq3 g c = grind (arith, whole_three)

-- the code is 2
pub returns-then-code-eq2 : goal.returns-then-code-eq2
returns-then-code-eq2 g c = grind (arith, part, here_stays, whole_two, append_assoc)

-- the code is 1 or 0
pub returns : goal.returns
returns g c = grind (arith, here_stays, whole_one, puts_both, part)
