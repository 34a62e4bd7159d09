use Rattle.std.proofs.Common.{ℕ, ◌++◌, ap, ◌∙◌}
use Rattle.go_rules.specs.Position.{BoardState}
use Rattle.helpers.specs.HelperStates.{says_yes}
use Rattle.helpers.specs.Slots.{states_of}
use Rattle.match_engine.specs.Readings.{codes_of}
use Rattle.pattern_changes.specs.Changes.{changes_at}
use Rattle.pattern_changes.proofs.Positions.{numbered-next}
use Rattle.pattern_changes.proofs.change.changes_over.Goals as goal

-- what changes on the next position stands behind what changes before
pub positions-preserved : goal.positions-preserved
positions-preserved g c =
    let first = says_yes (states_of (λ z. (goal.Helper-dyn g z).state z.1) c.args.helpers.now) in
    let now = says_yes (states_of (λ z. (goal.Helper-dyn g z).state z.1) c.positions.helpers) in
    let old = c.args.old.now in
    let new = c.args.new.now in
    let friends = c.args.friends.now in
    let place : ℕ × BoardState = (c.positions.moves, c.index-positions-moves.result) in
    let before = c.positions.changes.items in
    record {
      changes = numbered-next (changes_at (codes_of c.args.readings.now) first old new friends) c.args.positions.now
          c.positions.moves c.index-positions-moves.result before c.put_at.new.changes.items c.positions-test.true
          c.index-positions-moves.is c.positions.invariant.changes
          (c.in_ok-put_at.ensures.changes
          ∙ ap (λ code. before ++ changes_at code now old new friends place) c.positions.invariant.codes
          ∙ ap (λ says. before ++ changes_at (codes_of c.args.readings.now) says old new friends place)
          c.positions.invariant.advice);
      codes = c.in_ok-put_at.ensures.codes ∙ c.positions.invariant.codes;
      advice = c.in_ok-put_at.ensures.advice ∙ c.positions.invariant.advice;
    }
