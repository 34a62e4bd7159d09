-- What was put over the position is what the moves changed of it.
use Rattle.std.proofs.Common.{◌<◌, ◌∙◌, length, ap, arith}
use Rattle.go_base.proofs.SidesOfPoints.{square_small}
use Rattle.trial_board.specs.Trials.{Trying}
use Rattle.trial_board.specs.Standing.{newest_first, kept_at}
use Rattle.trial_board.proofs.StandingLemmas.{IsStanding-places, length-newest_first}
use Rattle.trial_board.proofs.ChangedLemmas.{changed_is, touched_on}
use Rattle.trial_board.proofs.trial.Trial.changes.Goals as goal

-- the stones that a standing move took stand in the row
pub changes_of-requires-clause-within : goal.changes_of-requires-clause-within
changes_of-requires-clause-within g c = λ k h.
    let look = c.self.inside.board.look in
    let i = c.self.invariant in
    omega (arith, i.within k h, IsStanding-places (g.L.Look.shows look) i (g.met.L.Look.holds look))

-- and what it touched is on the board, by the position shown
pub changes_of-requires-clause-on_board : goal.changes_of-requires-clause-on_board
changes_of-requires-clause-on_board g c = λ k h q touched.
    let inside = c.self.inside in
    let pos = g.L.Look.shows inside.board.look in
    let a = g.met.L.Look.holds inside.board.look in
    omega (
      arith,
      touched_on pos.size inside.row (kept_at inside.kept k) q (c.self.invariant.before pos a k h).on_board touched,
      square_small pos.size a.sound.size_at_most,
    )

-- a move stands
pub returns-clause-none : goal.returns-clause-none
returns-clause-none g c =
    let inside = c.self.inside in (
      λ e. absurd cc,
      λ e. absurd (omega (
        arith,
        c.if-self-eq0.false,
        length-newest_first inside.kept inside.standing,
        ap length (ap (λ (t : Trying _). t.moves) c.self.view_is ∙ e),
      )),
    )

-- and the board is the position with what they changed
pub returns-clause-over : goal.returns-clause-over
returns-clause-over g c = λ pos a.
    let inside = c.self.inside in
    let i = c.self.invariant in
    let here = rw (← c.self.view_is) at a in
    let some : 0 < length (newest_first inside.kept inside.standing) =
    omega (arith, c.if-self-eq0.false, length-newest_first inside.kept inside.standing) in
    rw (← c.self.view_is) (changed_is pos inside.row inside.kept inside.standing inside.board.known inside.ban
    c.changes_of.result (i.now pos here) some (i.before pos here) c.changes_of.ensures.tells c.changes_of.ensures.ban)
