-- What is told of taking back is told of the play at the point of a lone stone that is lost.
use Rattle.std.proofs.Common.{◌≡◌, ◌∙◌, true, ap, sym, subst, arith}
use Rattle.std.proofs.lemmas.Bool.{not-true}
use Rattle.go_base.specs.Facts.{Agrees}
use Rattle.go_rules.specs.declared.Cell.{Cell}
use Rattle.go_rules.specs.declared.Cell.TheVariants.{Empty}
use Rattle.go_rules.specs.Position.{other}
use Rattle.go_rules.specs.Strings.{same_cell}
use Rattle.go_rules.proofs.Cells.{eq_is_same_cell, ne_false_same}
use Rattle.trial_board.proofs.AfterLemmas.{size-after}
use Rattle.read_rules.specs.GameTree.{is_walled_in}
use Rattle.read_tree.proofs.TakingLemmas.{lost_stated, lost_by_attacker, lost_free}
use Rattle.write_proof.specs.Printed.{position_on}
use Rattle.write_proof.proofs.BackLemmas.{cannot_take_back, lost_standing, success_back}
use Rattle.write_proof.proofs.taking_back.back_success.Given.{Over}
use Rattle.write_proof.proofs.taking_back.back_success.Goals.{After-is_walled_in}
use Rattle.write_proof.proofs.taking_back.back_success.Goals as goal

-- the tree is the stated one
pub returns-then-not-is_wider-clause-success : goal.returns-then-not-is_wider-clause-success
returns-then-not-is_wider-clause-success g c = grind (arith, cannot_take_back, lost_stated)

-- it is the attacker's turn
pub returns-then-turn-clause-success : goal.returns-then-turn-clause-success
returns-then-turn-clause-success g c = grind (arith, cannot_take_back, lost_by_attacker)

-- the target stands
pub returns-then-ne-clause-success : goal.returns-then-ne-clause-success
returns-then-ne-clause-success g c = grind (arith, eq_is_same_cell, not-true, cannot_take_back, lost_standing)

-- whether its point is walled in was found
walled_is : (g : Over) (c : After-is_walled_in g)
    → let here = position_on g.L.Look.shows c.args.board.now in
    c.is_walled_in.result ≡ is_walled_in here.size here.cells c.args.turn.target (other c.args.turn.defender)
walled_is g c =
    let shown = g.L.Look.shows c.args.board.now.look in
    let here = position_on g.L.Look.shows c.args.board.now in
    let agrees = subst (Agrees (g.L.Look.seen c.is_walled_in.new.board.look))
    (c.is_walled_in.ensures.stays.shown ∙ c.cell.ensures.stays.shown)
    (g.met.L.Look.holds c.is_walled_in.new.board.look) in
    (rw c.cell.ensures.stays.moves at (c.is_walled_in.ensures.over shown agrees))
    ∙ ap (λ m. is_walled_in m here.cells c.args.turn.target (other c.args.turn.defender))
    (sym (size-after shown c.args.board.now.moves))

-- it was no lone stone
pub returns-then-not-is_walled_in-clause-success : goal.returns-then-not-is_walled_in-clause-success
returns-then-not-is_walled_in-clause-success g c = grind (arith, cannot_take_back, lost_free, walled_is)

-- it was, and the play at its point is told
pub returns-clause-success : goal.returns-clause-success
returns-clause-success g c =
    let d = (goal.at.returns-clause-success g c).After-is_walled_in in
    let shown = g.L.Look.shows c.args.board.now.look in
    let here = position_on g.L.Look.shows c.args.board.now in
    let cell_agrees = subst (Agrees (g.L.Look.seen c.cell.new.self.look)) c.cell.ensures.stays.shown
    (g.met.L.Look.holds c.cell.new.self.look) in
    let agrees = subst (Agrees (g.L.Look.seen c.may_take_back-good.new.board.look))
    (c.may_take_back-good.ensures.stays.shown ∙ c.is_walled_in.ensures.stays.shown ∙ c.cell.ensures.stays.shown)
    (g.met.L.Look.holds c.may_take_back-good.new.board.look) in
    let taken = ap (λ (x : Cell). same_cell x Empty) (sym c.cell.ensures.answer)
    ∙ ne_false_same c.cell.result Empty c.ne.result c.ne.ensures c.if-ne.false in
    let walled = sym (walled_is g d) ∙ c.if-not-is_walled_in.false in
    let at_size : is_walled_in shown.size here.cells c.args.turn.target (other c.args.turn.defender) ≡ true =
    ap (λ m. is_walled_in m here.cells c.args.turn.target (other c.args.turn.defender))
    (sym (size-after shown c.args.board.now.moves)) ∙ walled in
    let tells = (rw (c.is_walled_in.ensures.stays.moves, c.cell.ensures.stays.moves)
    at (c.may_take_back-good.ensures.over shown agrees)) (c.cell.ensures.sound shown cell_agrees) taken at_size in
    success_back c.args.asked c.may_take_back-good.result c.success_under.result c.args.turn here
    (sym c.is_wider.ensures ∙ c.if-not-is_wider.false) c.if-turn.false taken walled tells
    c.success_under.ensures.success
