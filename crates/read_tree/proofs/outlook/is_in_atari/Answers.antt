-- The one liberty that is known is the target's, and its stone is the defender's.
use Rattle.std.proofs.Common.{sym, ◌∙◌, arith}
use Rattle.go_base.specs.Facts.{agrees_before}
use Rattle.go_base.proofs.PointNeighbourhoods.{close_alone}
use Rattle.go_rules.proofs.Cells.{eq_is_same_cell}
use Rattle.go_rules.proofs.Paths.{same_cell-true}
use Rattle.trial_board.specs.Trials.{after}
use Rattle.trial_board.proofs.AfterLemmas.{size-after}
use Rattle.read_rules.proofs.AreaLemmas.{target_on}
use Rattle.read_tree.proofs.StageLemmas.{its_count}
use Rattle.read_tree.proofs.outlook.is_in_atari.Goals as goal

-- the target is the defender's and has one liberty, on each position that agrees, and it is no lone stone
pub returns-then-eq-clause-over : goal.returns-then-eq-clause-over
returns-then-eq-clause-over g c = λ pos a yes.
    let here = after pos c.args.board.now.moves in
    let a1 = agrees_before c.is_taken_for_good.ensures.stays.grows a in
    record {
      defends = c.if-turn.false;
      plies = c.if-plies-eq0.false;
      own = sym (c.cell.ensures.over pos a1) ∙ same_cell-true _ _
          (sym (eq_is_same_cell c.cell.result c.stone_of.result) ∙ sym c.eq.ensures ∙ c.if-eq.true)
          ∙ c.stone_of.ensures;
      one = sym (c.count.ensures.value ∙ its_count pos.size here c.args.turn.target c.args.known.now
          (size-after pos c.args.board.now.moves)
          (c.requires.liberties pos (agrees_before c.cell.ensures.stays.grows a1))) ∙ c.if-count-ne-IN_ATARI.false;
      sound = c.cell.ensures.sound pos a1;
      for_good = rw c.cell.ensures.stays.moves at (c.is_taken_for_good.ensures.over pos a yes);
    }

-- and so do those beside it
pub returns-then-eq-clause-near : goal.returns-then-eq-clause-near
returns-then-eq-clause-near g c = grind (arith, target_on, close_alone)

-- a target of the other colour is not looked around
pub returns-else-eq-clause-near : goal.returns-else-eq-clause-near
returns-else-eq-clause-near g c = grind (arith, target_on, close_alone)
