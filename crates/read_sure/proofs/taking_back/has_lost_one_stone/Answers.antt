-- A lone stone was lost by the tree, the turn, the target's point and its neighbours.
use Rattle.std.proofs.Common.{◌∙◌, ◌&&◌, ap, sym, arith}
use Rattle.std.proofs.lemmas.Bool.{not-true}
use Rattle.go_base.specs.Facts.{agrees_before}
use Rattle.go_rules.specs.declared.Cell.TheVariants.{Empty}
use Rattle.go_rules.specs.Position.{other}
use Rattle.go_rules.specs.Strings.{same_cell}
use Rattle.go_rules.proofs.Cells.{eq_is_same_cell, ne_false_same}
use Rattle.trial_board.specs.Trials.{after}
use Rattle.trial_board.proofs.AfterLemmas.{size-after}
use Rattle.read_rules.specs.GameTree.{is_walled_in}
use Rattle.read_tree.proofs.TakingLemmas.{lost_stated, lost_by_attacker, lost_stones}
use Rattle.read_sure.proofs.LossLemmas.{lost_standing}
use Rattle.read_sure.proofs.taking_back.has_lost_one_stone.Goals as goal

-- none in the stated tree
pub returns-then-not-is_wider-clause-over : goal.returns-then-not-is_wider-clause-over
returns-then-not-is_wider-clause-over g c = grind (arith, lost_stated)

-- none at the attacker's turn
pub returns-then-node-clause-over : goal.returns-then-node-clause-over
returns-then-node-clause-over g c = grind (arith, lost_by_attacker)

-- none where the target stands
pub returns-then-ne-clause-over : goal.returns-then-ne-clause-over
returns-then-ne-clause-over g c = grind (arith, lost_standing, eq_is_same_cell, not-true)

-- else where its point is walled in
pub returns-clause-over : goal.returns-clause-over
returns-clause-over g c = λ pos a.
    let here = after pos c.args.board.now.moves in
    let node = c.args.node in
    let cell = c.cell.ensures.over pos (agrees_before c.is_walled_in.ensures.stays.grows a) in
    let gone = ap (λ k. same_cell k Empty) (sym cell)
    ∙ ne_false_same c.cell.result Empty c.ne.result c.ne.ensures c.if-ne.false in
    let walled = rw c.cell.ensures.stays.moves at (c.is_walled_in.ensures.over pos a) in
    walled ∙ ap (λ m. is_walled_in m here.cells node.turn.target (other node.turn.defender))
    (sym (size-after pos c.args.board.now.moves))
    ∙ sym (ap (λ b. b && is_walled_in here.size here.cells node.turn.target (other node.turn.defender))
    (lost_stones node here (sym c.is_wider.ensures ∙ c.if-not-is_wider.false) c.if-node.false gone))
