-- A line that was taken is the one line that ends in the bytes that were fed.
use Rattle.sure_lines.proofs.SessionLemmas.{answered-is, answered-none}
use Rattle.sure_lines.proofs.TakenLines.{taken_line, no_line_taken}
use Rattle.sure_lines.proofs.session.answer_next.Goals as goal
use Rattle.std.proofs.Common.{sym, arith}

-- it was answered
pub returns-in_ok-ended-in-Some-clause-answered : goal.returns-in_ok-ended-in-Some-clause-answered
returns-in_ok-ended-in-Some-clause-answered g c = grind (arith, taken_line, answered-is)

-- nothing is held after it
pub returns-in_ok-ended-in-Some-clause-held : goal.returns-in_ok-ended-in-Some-clause-held
returns-in_ok-ended-in-Some-clause-held g c = grind (arith, taken_line)

-- no line ended
pub returns-in-None-clause-answered : goal.returns-in-None-clause-answered
returns-in-None-clause-answered g c =
    let fed = c.feed-count.ensures.fed c.requires in
    let none = no_line_taken c.args.lines.now c.feed-count.new.self c.take.new.self c.args.rest.now c.feed-count.result
    c.take.result fed c.in-None.is c.take.ensures.none c.take.ensures.some in
    answered-is _ _ _ _ _ _ _ _ none.0 (answered-none _ _ _)

-- and the line goes on
pub returns-in-None-clause-held : goal.returns-in-None-clause-held
returns-in-None-clause-held g c =
    let fed = c.feed-count.ensures.fed c.requires in
    let none = no_line_taken c.args.lines.now c.feed-count.new.self c.take.new.self c.args.rest.now c.feed-count.result
    c.take.result fed c.in-None.is c.take.ensures.none c.take.ensures.some in
    (sym none.1, none.2)
