-- What was written is accepted by the check.
use Rattle.std.proofs.Common.{◌≡◌, ◌∙◌, ◌-◌, Ok, true, length, take, drop, sym, subst, arith, length-drop}
use Rattle.std.proofs.lemmas.List.{take_all}
use Rattle.board_doors.specs.Doors.{check_on}
use Rattle.board_doors.proofs.PrintedProofs.{IsProofIn, is_accepted}
use Rattle.board_doors.proofs.printed.proof_on.Goals as goal

-- the bytes are the first text, which is a proof of the code
pub returns-in-Ok-write_first-clause-accepted : goal.returns-in-Ok-write_first-clause-accepted
returns-in-Ok-write_first-clause-accepted c = λ written.
    let pos = c.args.position.now in
    let code = c.in-Ok-write_first.code in
    let text = drop 1 c.write_first.new.out in
    let accepted : check_on c.args.kind c.args.target c.args.depths code text pos ≡ Ok true =
    is_accepted c.args.target c.args.depths pos code text c.in-Ok-write_first.ensures.few c.args.kind
    (subst (IsProofIn code text) (sym c.in-Ok.ensures.value) c.in-Ok-write_first.ensures.accepted) in
    let out = c.write_first.new.out in
    let whole : take (length out - 1) text ≡ text = take_all (length out - 1) text
    (omega (arith, length-drop 1 out)) in
    let same = rw c.as_slice.ensures at c.printed.ensures.written written in
    rw (c.printed.ensures.code, same ∙ whole) accepted
