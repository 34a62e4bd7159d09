-- What is kept is too much for the attacker, and no ban is on the play.
use Rattle.std.proofs.Common.{◌-◌, true, ap, sym, subst, ◌∙◌}
use Rattle.go_base.specs.Facts.{agrees_before}
use Rattle.trial_board.specs.Trials.{after}
use Rattle.trial_board.proofs.AfterLemmas.{size-after}
use Rattle.read_rules.specs.Bound.{outlasts}
use Rattle.read_tree.specs.Escapes.{IsLibertyAfter}
use Rattle.read_tree.proofs.escape.runs_free.Goals as goal

-- the defender runs free, on each position that agrees
pub returns-clause-over : goal.returns-clause-over
returns-clause-over g c = λ pos a yes.
    let here = after pos c.args.board.now.moves in
    let kept = rw c.bans.ensures.stays.moves at (c.kept_at-kept.ensures.over pos a) in
    record {
      free = sym (c.bans.ensures.over pos (agrees_before c.kept_at-kept.ensures.stays.grows a)) ∙ c.if-bans.false;
      kept = c.kept_at-kept.result;
      each = λ x h. subst (λ n. IsLibertyAfter n here.cells c.args.known.now c.args.l x)
          (sym (size-after pos c.args.board.now.moves)) (kept x h);
      many = ap (outlasts c.args.turn.tree true c.args.plies (c.args.turn.wide - 1)) (sym c.count.ensures.value)
          ∙ ap (λ k. outlasts c.args.turn.tree true c.args.plies k c.count.result) (sym c.saturating_sub.ensures)
          ∙ sym c.outlasts.ensures ∙ yes;
    }
