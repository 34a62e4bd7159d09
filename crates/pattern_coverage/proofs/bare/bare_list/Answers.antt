use Rattle.pattern_coverage.proofs.BareLists.{AreBare-next}
use Rattle.pattern_coverage.proofs.bare.bare_list.Goals as goal

-- one pattern more, and its bare pattern
pub loop-p-preserved : goal.loop-p-preserved
loop-p-preserved c =
    AreBare-next c.args.patterns.now c.loop-p.bare.items c.push.new.self.items c.loop-p.p-index c.p-item.result
    c.in_ok-bare_of.field-0 c.loop-p-test.true c.p-item.is c.loop-p.invariant c.in_ok-bare_of.ensures
    c.in_ok-push.ensures.items
