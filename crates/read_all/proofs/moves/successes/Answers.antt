-- The loop over the points that are tried.
use Rattle.std.proofs.Common.{◌∙◌, sym, arith}
use Rattle.std.specs.FinSet as set
use Rattle.go_base.specs.Facts.{agrees_before}
use Rattle.trial_board.specs.Trials.{after, Stays-trans}
use Rattle.read_rules.specs.GameTree.{succeeds}
use Rattle.read_all.proofs.FoundMoves.{none_below, one_more, no_more}
use Rattle.read_all.proofs.moves.successes.Goals as goal
use Rattle.read_all.proofs.moves.successes.Goals.{then-is_success, else-is_success}

-- no point was tried yet
pub points-init : goal.points-init
points-init g c = grind (arith, none_below)

-- the next point is on the board
pub is_success-requires-clause-on_board : goal.is_success-requires-clause-on_board
is_success-requires-clause-on_board g c = grind arith

-- it came exactly if its play succeeds
pub points-preserved : goal.points-preserved
points-preserved g c =
    let i = c.points.invariant in
    let later = c.is_success.ensures.stays in
    let some = c.in-Some.ensures.some in
    let tried = set.contains c.args.tried.now in
    record {
      stays = Stays-trans i.stays later;
      table = c.is_success.ensures.table;
      found = λ pos a.
          let wins = succeeds c.args.plies c.args.node (after pos c.args.board.now.moves) in
          let before = i.found pos (agrees_before later.grows a) in
          let over = rw i.stays.moves at (c.is_success.ensures.over pos a) in
          elim c.if-is_success.branch [
            | then-is_success w ↦ one_more tried wins c.points.from c.in-Some.p c.points.found c.if-is_success.found
                before some.0 some.3 some.2 (sym over ∙ w.if-is_success.true) (w.found-is ∙ w.add.ensures)
            | else-is_success w ↦ rw w.found-is (no_more tried wins c.points.from c.in-Some.p c.points.found before
                some.0 some.3 (sym over ∙ w.if-is_success.false))
          ];
    }
