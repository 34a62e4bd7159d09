-- One match more, which is among those that may be listed.
use Rattle.std.proofs.Common.{sym}
use Rattle.std.specs.List.{Contains}
use Rattle.session_core.proofs.LineTexts.{matches-next}
use Rattle.session_core.proofs.match_text.list_text.Goals as goal

-- the match is one of the list
there : (c : goal.After-push_next-arg-1) → Contains c.args.found.now c.z-item.result
there c = (c.loop-z.z-index, c.loop-z-test.true, sym c.z-item.is)

-- a match that is listed bears the number of one of the patterns
pub push_next-requires-clause-pattern : goal.push_next-requires-clause-pattern
push_next-requires-clause-pattern c = (c.requires c.z-item.result (there c)).0

-- a match that is listed stands at a point of the board
pub push_next-requires-clause-at : goal.push_next-requires-clause-at
push_next-requires-clause-at c = (c.requires c.z-item.result (there c)).1

-- each match has a line of its own, below those that precede it in the list
pub loop-z-preserved : goal.loop-z-preserved
loop-z-preserved c =
    matches-next c.args.patterns.now c.args.size c.args.found.now c.loop-z.z-index c.z-item.result c.loop-z.text
    c.push_next.new.text c.loop-z-test.true
    c.z-item.is c.loop-z.invariant c.in_ok-push_next.ensures
