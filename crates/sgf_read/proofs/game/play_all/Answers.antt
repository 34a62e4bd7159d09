-- The values of a node, one after another.
use Rattle.std.proofs.Common.{Some, sym, ◌∙◌}
use Rattle.sgf_rules.specs.Game.{after_uses}
use Rattle.sgf_read.specs.Reads.{tokens_from, uses_from, uses_at, bytes_said}
use Rattle.sgf_read.proofs.GameSteps.{play_step, play_stops, play_end}
use Rattle.sgf_read.proofs.Leads.{fault_handed_on}
use Rattle.sgf_read.proofs.game.play_all.Goals as goal

-- a move that is refused
pub returns-in_err-play_by : goal.returns-in_err-play_by
returns-in_err-play_by c =
    let u = c.in-Some.u in
    let text = c.args.text.now in
    fault_handed_on c.from_residual.result c.in_err-play_by.field-0.0 c.play_by.new.pos
    (after_uses c.args.pos.now (uses_at text c.args.node)) c.from_residual.ensures.1
    (sym c.uses.invariant.rest
    ∙ play_stops c.uses.pos (uses_from c.uses.meaning (tokens_from text c.uses.at))
    (uses_from (Some u.meaning) (tokens_from text u.next)) (u.meaning, bytes_said text u) c.in_err-play_by.field-0.0
    c.in-Some.ensures.uses c.in_err-play_by.ensures)

-- a move that is made
pub uses-preserved : goal.uses-preserved
uses-preserved c =
    let u = c.in-Some.u in
    let text = c.args.text.now in
    record {
      within = c.in-Some.ensures.within;
      rest = play_step c.uses.pos c.play_by.new.pos (uses_from c.uses.meaning (tokens_from text c.uses.at))
          (uses_from (Some u.meaning) (tokens_from text u.next)) (u.meaning, bytes_said text u) c.in-Some.ensures.uses
          c.in_ok-play_by.ensures ∙ c.uses.invariant.rest;
    }

-- no move is left
pub returns : goal.returns
returns c =
    sym c.uses.invariant.rest
    ∙ play_end c.uses.pos (uses_from c.uses.meaning (tokens_from c.args.text.now c.uses.at)) c.in_default.ensures
