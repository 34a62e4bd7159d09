use Rattle.std.proofs.Common.{◌+◌, ◌<◌, ◌∙◌, arith}
use Rattle.go_rules.specs.Board.{largest_points}
use Rattle.trial_board.specs.Captured.{most_captured}
use Rattle.trial_board.proofs.CapturedLemmas.{Noted-none, Noted-next, Noted-room, Noted-all}
use Rattle.trial_board.proofs.captured.note_each.Goals as goal
use Rattle.trial_board.proofs.captured.note_each.Goals.{In-Some}

-- nothing is written at first
pub loop-q-init : goal.loop-q-init
loop-q-init c = (Noted-none _ _ _, omega arith)

-- there is a place for the point
place : (c : In-Some) → c.args.first + c.loop-q.count < most_captured
place c =
    let some = c.in-Some.ensures.some in
    Noted-room c.args.points.now c.in-Some.q largest_points most_captured c.loop-q.invariant.0 some.0 some.3 some.2
    c.requires.small c.requires.room

-- the row is no longer than a word tells
pub overflow_add-row : goal.overflow_add-row
overflow_add-row c = omega (arith, place (goal.at.overflow_add-row c).In-Some)

-- the place is in the row
pub bounds-row-first : goal.bounds-row-first
bounds-row-first c = place (goal.at.bounds-row-first c).In-Some

-- there are no more points than the row has places
pub overflow_add-count : goal.overflow_add-count
overflow_add-count c = omega (arith, place (goal.at.overflow_add-count c).In-Some)

-- one point fewer is left
pub loop-q-smaller : goal.loop-q-smaller
loop-q-smaller c = omega (arith, c.in-Some.ensures.some.0, c.in-Some.ensures.some.1)

-- the points up to this one are written
pub loop-q-preserved : goal.loop-q-preserved
loop-q-preserved c =
    let some = c.in-Some.ensures.some in
    let i = c.loop-q.invariant in
    let room = place (goal.at.loop-q-preserved c).In-Some in (
      Noted-next c.in-Some.q i.0 some.0 some.3 some.2 (omega (arith, room, i.0.whole, c.requires.row_whole)),
      omega (arith, some.1),
    )

-- the row is as long as before
pub returns-clause-row_whole : goal.returns-clause-row_whole
returns-clause-row_whole c = c.loop-q.invariant.0.whole ∙ c.requires.row_whole

-- all were written
pub returns-clause-noted : goal.returns-clause-noted
returns-clause-noted c = Noted-all c.args.points.now c.loop-q.invariant.0 c.in_default.ensures.none

-- nothing before them was written over
pub returns-clause-before : goal.returns-clause-before
returns-clause-before c = c.loop-q.invariant.0.before
