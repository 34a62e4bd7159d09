-- The candidates in reading order, each asked only for the codes above the best so far.
use Rattle.std.proofs.Common.{◌∙◌, ◌+◌, suc, sym, arith, ◌&&◌, nat_lt}
use Rattle.std.specs.FinSet as set
use Rattle.go_base.specs.Facts.{Agrees, agrees_before, Grows-refl, Grows-trans}
use Rattle.go_rules.specs.Position.{BoardState}
use Rattle.trial_board.specs.Trials.{after}
use Rattle.read_rules.specs.Candidates.{is_candidate}
use Rattle.read_tree.specs.Allowances.{neither_may}
use Rattle.read_tree.proofs.AllowanceLemmas.{fewer_nodes, has_all}
use Rattle.read_rules.proofs.AreaLemmas.{AddsNear-trans}
use Rattle.read_tree.proofs.BestLemmas.{asks_some, better_on, best_start, best_point, best_three}
use Rattle.read_tree.proofs.TableLemmas.{table_more}
use Rattle.std.proofs.Common.{refl, IfSome}
use Rattle.go_base.specs.Views.{nowhere}
use Rattle.trial_board.specs.Trials.{Stays-trans}
use Rattle.read_rules.specs.GoodMoves.{IsOnBoard}
use Rattle.read_tree.specs.Allowances.{all_three}
use Rattle.read_tree.specs.Steps.{IsBest}
use Rattle.read_tree.specs.Walk.{LooksNear}
use Rattle.read_tree.proofs.ReadyLemmas.{candidate_inside}
use Rattle.read_tree.proofs.StandingNodes.{standing_node, near_wide}
use Rattle.read_tree.proofs.reading.best_point.Given.{Over}
use Rattle.read_tree.proofs.reading.best_point.Goals.{After-better-best}
use Rattle.read_tree.proofs.reading.best_point.Goals as goal

-- the candidates are looked for in the active area, and none was read yet
pub loop-p-init : goal.loop-p-init
loop-p-init g c = record {
  stays = c.candidates-candidates.ensures.stays;
  grows = Grows-refl _;
  code = c.requires.code;
  none = c.requires.none;
  on_board = c.requires.on_board;
  table = table_more c.requires.table c.candidates-candidates.ensures.stays.grows;
  near = λ pos a q root tree und.
      let a0 = agrees_before c.candidates-candidates.ensures.stays.grows a in
      let node = standing_node _ (g.met.L.Look.sized c.args.board.now.look) a0 c.args.board.now.moves c.requires.target
      refl tree (und neither_may).stands in
      near_wide node (c.candidates-candidates.ensures.near pos a);
  best = λ pos a start. best_start c.args.plies c.args.turn (after pos c.args.board.now.moves)
      (set.contains c.candidates-candidates.result) c.args.first start;
}

-- a candidate is on the board, and above a code below 3 there is an allowance to ask for
pub succeeds_by_depths-good-requires : goal.succeeds_by_depths-good-requires
succeeds_by_depths-good-requires g c = grind (arith, asks_some, candidate_inside)

-- One more candidate was read.
module _ (g : Over) (c : After-better-best g) where
  -- the best of those that were read, on a position that agrees
  read_best : (pos : BoardState) → Agrees (g.L.Look.seen c.succeeds_by_depths-good.new.board.look) pos
      → IsBest c.args.plies c.args.turn (after pos c.args.board.now.moves) nowhere c.args.first
      → IsBest c.args.plies c.args.turn (after pos c.args.board.now.moves)
      (λ q. nat_lt q (c.in-Some.p + 1) && set.contains c.candidates-candidates.result q) c.better-best.result
  read_best pos a start =
      let i = c.loop-p.invariant in
      let first = c.in-Some.ensures.some in
      let a1 = agrees_before c.succeeds_by_depths-good.ensures.stays.grows a in
      rw c.better-best.ensures.is (best_point c.args.plies c.args.turn (after pos c.args.board.now.moves)
      (set.contains c.candidates-candidates.result) c.loop-p.next c.in-Some.p c.loop-p.best c.succeeds_by_depths-good.result
      (c.candidates-candidates.ensures.over pos (agrees_before i.grows a1)) (i.best pos a1 start) first.2 first.3
      (rw (i.stays.moves, c.above-asked.ensures) at (c.succeeds_by_depths-good.ensures.over pos a)))

  -- the looks up to now lie in the active area
  read_near : LooksNear g.L.Look.seen c.args.board.now c.succeeds_by_depths-good.new.board (suc c.args.plies) c.args.turn
      all_three
  read_near pos a q root tree und =
      let i = c.loop-p.invariant in
      let a1 = agrees_before c.succeeds_by_depths-good.ensures.stays.grows a in
      let candidate = sym (c.candidates-candidates.ensures.over pos (agrees_before i.grows a1) c.in-Some.p)
      ∙ c.in-Some.ensures.some.2 in
      AddsNear-trans (i.near pos a1 q root tree und)
      ((rw i.stays.moves at (c.succeeds_by_depths-good.ensures.near pos a q root))
      (fewer_nodes c.above-asked.result tree (λ ko h. has_all ko)) und candidate)

  -- its move is on the board
  read_on_board : IfSome c.better-best.result.at (IsOnBoard (g.L.Look.shows c.args.board.now.look).size)
  read_on_board = grind (arith, better_on, candidate_inside)

-- one more candidate
pub loop-p-preserved : goal.loop-p-preserved
loop-p-preserved g c =
    let i = c.loop-p.invariant in
    let d = (goal.at.loop-p-preserved g c).After-better-best in
    let bounded = c.better-best.ensures.code (omega (arith, i.code)) in
    record {
      stays = Stays-trans i.stays c.succeeds_by_depths-good.ensures.stays;
      grows = Grows-trans i.grows c.succeeds_by_depths-good.ensures.stays.grows;
      code = omega (arith, bounded, c.if-best-eq3.false);
      none = c.better-best.ensures.none i.none;
      on_board = read_on_board g d;
      table = c.succeeds_by_depths-good.ensures.table;
      near = read_near g d;
      best = read_best g d;
    }

-- no code is greater
pub returns-then-best-eq3 : goal.returns-then-best-eq3
returns-then-best-eq3 g c =
    let i = c.loop-p.invariant in
    let d = (goal.at.returns-then-best-eq3 g c).After-better-best in
    record {
      stays = Stays-trans i.stays c.succeeds_by_depths-good.ensures.stays;
      code = c.better-best.ensures.code (omega (arith, i.code));
      none = c.better-best.ensures.none i.none;
      on_board = read_on_board g d;
      near = read_near g d;
      over = λ pos a start.
          best_three c.args.plies c.args.turn (after pos c.args.board.now.moves)
          (λ q. nat_lt q (c.in-Some.p + 1) && set.contains c.candidates-candidates.result q) c.better-best.result
          (read_best g d pos a start) c.if-best-eq3.true
          (is_candidate c.args.turn (after pos c.args.board.now.moves));
    }

-- no candidate is left, and the best of those that were read is the best of all
pub returns-clause-over : goal.returns-clause-over
returns-clause-over g c = grind arith
