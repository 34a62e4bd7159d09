-- The next point is found, or it is passed over.
use Rattle.std.proofs.Common.{sym, ◌∙◌, rules, arith}
use Rattle.problem_records.specs.Nodes.{all_shown}
use Rattle.problem_records.proofs.Stones.{next_found, next_passed}
use Rattle.problem_records.proofs.marks.marked_stones.Goals.{then-is_marked_stone+in_ok-push, else-is_marked_stone}
use Rattle.problem_records.proofs.marks.marked_stones.Goals as goal

-- the stones so far, with the next point if a marked stone stands there
pub points-preserved : goal.points-preserved
points-preserved c =
    elim c.if-is_marked_stone.branch [
      | then-is_marked_stone+in_ok-push w ↦
          let found = next_found c.args.position.now (all_shown c.args.values.now) c.points.p c.points.stones.items
          c.points.invariant (sym c.is_marked_stone.ensures ∙ w.if-is_marked_stone.true) in
          let pushed = w.in_ok-push.ensures.items in
          first_of (cc, search (rules, found, pushed), grind (arith, found, pushed))
      | else-is_marked_stone w ↦
          let passed = next_passed c.args.position.now (all_shown c.args.values.now) c.points.p c.points.stones.items
          c.points.invariant (sym c.is_marked_stone.ensures ∙ w.if-is_marked_stone.false) in
          first_of (cc, search (rules, passed), grind (arith, passed))
    ]
