-- The values are judged, the setup is made, and the moves are played.
use Rattle.std.proofs.Common.{◌≡◌, Option, Some, None, MatchOption, List, [], is_some, false, ap, sym, ◌∙◌, subst}
use Rattle.std.specs.List.{list_all}
use Rattle.sgf_rules.specs.Uses.{Use}
use Rattle.sgf_rules.specs.Game.{is_readable, after_node}
use Rattle.sgf_read.specs.declared.uses.UsedValue.{UsedValue}
use Rattle.sgf_read.specs.Reads.{uses_at, IsFirstUse, Leads}
use Rattle.sgf_read.proofs.GameSteps.{node_idle, node_unread, node_dead, node_played}
use Rattle.sgf_read.proofs.Leads.{fault_handed_on}
use Rattle.sgf_read.proofs.game.play_node.Goals as goal

-- where no value is found, none is used
none_used : (r : Option UsedValue) (us : List Use) (P : UsedValue → Type 0) → MatchOption r (us ≡ []) P
    → is_some r ≡ false → us ≡ []
none_used None us P h e = h
none_used (Some u) us P h e = absurd (cc)

-- nothing is used
pub returns-then-is_none : goal.returns-then-is_none
returns-then-is_none c =
    let uses = uses_at c.args.text.now c.args.node in
    node_idle c.args.pos.now uses
    (none_used c.next_use.result uses (λ u. IsFirstUse c.args.text.now c.args.node None u) c.next_use.ensures
    c.if-is_none.ensures)

-- a value that does not say what it should
pub returns-then-not-is_all_readable : goal.returns-then-not-is_all_readable
returns-then-not-is_all_readable c =
    let uses = uses_at c.args.text.now c.args.node in
    node_unread c.args.pos.now uses
    (ap (λ n. list_all (is_readable n) uses) (sym c.size.ensures.value)
    ∙ (sym c.is_all_readable.ensures ∙ c.if-not-is_all_readable.true))

-- a string without a liberty
pub returns-in_err-set_up : goal.returns-in_err-set_up
returns-in_err-set_up c =
    let uses = uses_at c.args.text.now c.args.node in
    fault_handed_on c.from_residual.result c.in_err-set_up.field-0.0 c.set_up.new.pos (after_node c.args.pos.now uses)
    c.from_residual.ensures.1
    (node_dead c.args.pos.now uses c.in_err-set_up.field-0.0
    (ap (λ n. list_all (is_readable n) uses) (sym c.size.ensures.value)
    ∙ (sym c.is_all_readable.ensures ∙ c.if-not-is_all_readable.false)) c.in_err-set_up.ensures)

-- the moves behind the setup
pub returns : goal.returns
returns c =
    let uses = uses_at c.args.text.now c.args.node in
    subst (λ should. Leads c.play_all.result c.play_all.new.pos should)
    (node_played c.args.pos.now c.set_up.new.pos uses
    (ap (λ n. list_all (is_readable n) uses) (sym c.size.ensures.value)
    ∙ (sym c.is_all_readable.ensures ∙ c.if-not-is_all_readable.false)) c.in_ok-set_up.ensures) c.play_all.ensures
