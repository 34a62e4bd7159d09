-- What is answered of a text, by its items.
use Rattle.std.proofs.Common.{true, false, arith}
use Rattle.cons_parse.proofs.ParseAnswers.{told, too_deep, call_refused, scan_refused, spelled}
use Rattle.cons_parse.proofs.parsing.read.Goals as goal

-- a leaf stands too deep
pub returns-in-Ok-true-clause-err : goal.returns-in-Ok-true-clause-err
returns-in-Ok-true-clause-err c =
    grind (
      arith,
      too_deep c.args.labels.now c.args.text.now c.in-Ok.items.items,
      told c.args.text.now c.in-Ok.items.items true c.in-Ok.ensures,
    )

-- the items are not in the grammar, or memory ran out
pub returns-in-Err-scan-clause-err : goal.returns-in-Err-scan-clause-err
returns-in-Err-scan-clause-err c = grind (arith, scan_refused)

-- a call has a fault
pub returns-in-Some-clause-err : goal.returns-in-Some-clause-err
returns-in-Some-clause-err c =
    grind (
      arith,
      call_refused c.args.labels.now c.args.text.now c.in-Ok.items.items c.in-Some.fault,
      told c.args.text.now c.in-Ok.items.items false c.in-Ok.ensures,
    )

-- the expression that is built is the one that is spelled
pub returns-in_ok-build-in-None-clause-ok : goal.returns-in_ok-build-in-None-clause-ok
returns-in_ok-build-in-None-clause-ok c =
    grind (
      arith,
      spelled c.args.labels.now c.args.text.now c.in-Ok.items.items c.in_ok-build-in-None.field-0,
      told c.args.text.now c.in-Ok.items.items false c.in-Ok.ensures,
    )
