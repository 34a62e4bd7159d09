-- One pattern more.
use Rattle.std.proofs.Common.{arith}
use Rattle.session_core.proofs.LineTexts.{patterns-next}
use Rattle.session_core.proofs.pattern_text.patterns_text.Goals as goal

-- each pattern has a line of its own, below those that precede it in the list
pub loop-p-preserved : goal.loop-p-preserved
loop-p-preserved c =
    grind (arith, patterns-next c.args.patterns.now c.loop-p.p-index c.p-item.result c.loop-p.text c.push_next.new.text)
