-- The walk over items.
use Rattle.std.proofs.Common.{sym, ◌∙◌, ap}
use Rattle.cons_parse.specs.Scan.{advance, scanned, spot_of}
use Rattle.cons_parse.proofs.CallLemmas.{fails_along}
use Rattle.cons_parse.proofs.ScanLemmas.{next_place, no_place, at_end}
use Rattle.cons_parse.proofs.scan.scan.Goals as goal

-- the item may not stand here, or memory ran out
pub returns-in-Err : goal.returns-in-Err
returns-in-Err c =
    fails_along c.in-Err.e (advance (spot_of c.loop-item.place) c.item-item.result) (scanned c.args.items.now)
    (λ h. no_place (spot_of c.loop-item.place) c.args.items.now c.loop-item.item-index c.item-item.result
    (scanned c.args.items.now) c.loop-item-test.true c.loop-item.invariant
    (ap (advance (spot_of c.loop-item.place)) (sym c.item-item.is) ∙ h))
    c.in-Err.ensures

-- an item is passed over
pub loop-item-preserved : goal.loop-item-preserved
loop-item-preserved c =
    next_place (spot_of c.loop-item.place)
    (spot_of c.step.new.place) c.args.items.now c.loop-item.item-index c.item-item.result
    (scanned c.args.items.now) c.loop-item-test.true
    (ap (advance (spot_of c.loop-item.place)) (sym c.item-item.is) ∙ c.in-Ok.ensures) c.loop-item.invariant

-- all is closed at the end
pub returns-in-Some : goal.returns-in-Some
returns-in-Some c =
    at_end (spot_of c.loop-item.place) c.args.items.now c.loop-item.item-index
    (scanned c.args.items.now) c.loop-item-test.false c.loop-item.invariant ∙ (sym c.end.ensures ∙ c.in-Some.is)

-- something is open at the end
pub returns : goal.returns
returns c =
    at_end (spot_of c.loop-item.place) c.args.items.now c.loop-item.item-index
    (scanned c.args.items.now) c.loop-item-test.false c.loop-item.invariant ∙ (sym c.end.ensures ∙ c.in-None.is)
