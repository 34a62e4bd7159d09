-- The walk over the game tree answers what the tree says under each of the asked allowances, over every position that
-- agrees with what was seen.
use Rattle.std.proofs.Common.{arith, ◌&&◌, ◌||◌, ◌≡◌, ◌∙◌, ◌-◌, ◌*◌, ◌<◌, ℕ, suc, true, false, ap, sym}
use Rattle.std.proofs.Common.{refl, is_some, rules}
use Rattle.std.specs.FinSet as set
use Rattle.go_base.specs.Facts.{agrees_before, Grows-refl, Grows-trans, same_size}
use Rattle.go_rules.specs.declared.Cell.TheVariants.{Empty}
use Rattle.go_rules.proofs.Cells.{eq_is_same_cell}
use Rattle.std.proofs.lemmas.Bool.{and_parts, or_left}
use Rattle.go_rules.specs.Strings.{is_liberty}
use Rattle.read_rules.specs.Turns.{next_turn}
use Rattle.read_rules.specs.Candidates.{is_candidate}
use Rattle.read_rules.specs.Bound.{outlasts}
use Rattle.read_tree.specs.Stages.{is_other, is_capture_or_liberty}
use Rattle.trial_board.specs.Trials.{after}
use Rattle.trial_board.proofs.AfterLemmas.{size-after}
use Rattle.read_rules.specs.ActiveArea.{IsUndecided, InActiveArea}
use Rattle.read_tree.specs.Table.{IsTrueOf}
use Rattle.read_tree.specs.Allowances.{Ko, under, own_ko, neither_may, has_some, without}
use Rattle.read_rules.specs.GoodMoves.{good_move}
use Rattle.read_tree.specs.Steps.{AreNodesOf, TellsBy, is_off_liberties, is_safe}
use Rattle.read_rules.specs.GameTree.{has_many_liberties, attacker_wins, child_of, first_success, succeeds}
use Rattle.read_tree.proofs.AllowanceLemmas.{success_some, good_by_success, suits_child}
use Rattle.read_tree.proofs.AllowanceLemmas.{IsFiltered-same, IsFiltered-attackers, IsFiltered-all, IsFiltered-none}
use Rattle.read_tree.proofs.AllowanceLemmas.{good_attacker, told_allowed, legal_nodes, allowed_nodes, pass_nodes}
use Rattle.read_tree.proofs.AllowanceLemmas.{left_first, left_next}
use Rattle.read_tree.proofs.StageLemmas.{by_done, by_over, by_none, by_failing, by_same, by_enough, by_both}
use Rattle.read_tree.proofs.StageLemmas.{stage_done, stage_over, none_other, nothing_near, liberty_is_candidate}
use Rattle.read_tree.proofs.StageLemmas.{capture_is_candidate, capture_is_off, other_is_candidate, other_is_off}
use Rattle.read_tree.proofs.StageLemmas.{other_no_capture, no_other, off_by_stages, its_liberty, its_count}
use Rattle.read_tree.proofs.StageLemmas.{known_inside}
use Rattle.read_tree.proofs.DefenceLemmas.{close_done, pass_done, later_over}
use Rattle.read_tree.proofs.OrderLemmas.{none_tried, newest_or_before, fewer_left, none_left}
use Rattle.read_tree.proofs.TurnBounds.{bounded_at, undecided_at}
use Rattle.read_moves.proofs.WholeBoards.{whole_after}
use Rattle.read_tree.proofs.AtariLemmas.{pass_fails, atari_fails}
use Rattle.read_tree.proofs.EscapeLemmas.{escape_succeeds}
use Rattle.read_tree.proofs.TakeLemmas.{take_wins}
use Rattle.read_tree.proofs.TableLemmas.{table_more, told_before, told_after, read_true}
use Rattle.read_rules.proofs.AreaLemmas.{AddsNear-trans}
use Rattle.read_rules.proofs.AreaLemmas.{pred_tree, target_on}
use Rattle.read_rules.proofs.WinLemmas.{wins-no_plies, wins-by_move}
use Rattle.read_tree.specs.Steps.{IsLeft}
use Rattle.std.specs.Ordering.{nat_cmp}
use Rattle.read_rules.specs.GameTree.{is_captured}
use Rattle.trial_board.specs.Trials.{Stays-trans}
use Rattle.read_tree.specs.Walk.{IsPointOf, AreLibertiesOf, OnEachAgreeing, LooksNear, LooksNearWhere, LooksNearOrAt}
use Rattle.read_tree.proofs.AllowanceLemmas.{fewer_nodes, left_nodes}
use Rattle.read_tree.proofs.CarryLemmas.{carried_on}
use Rattle.read_tree.proofs.ReadyLemmas.{on_after, point_after, candidate_inside, candidates_inside, ready_after}
use Rattle.read_tree.proofs.ReadyLemmas.{liberties_after, captures_after, captures_found}
use Rattle.read_tree.proofs.StandingNodes.{standing_node, ready_node, undecided_node, near_captures}
use Rattle.read_tree.proofs.StandingNodes.{near_play, near_sides}
use Rattle.read_tree.proofs.StandingNodes.{near_wide, near_escape, near_child, near_outlook, near_at}
use Rattle.go_base.specs.Facts.{Agrees}
use Rattle.go_rules.specs.Position.{BoardState, IsPosition, other}
use Rattle.go_rules.proofs.Paths.{same_cell-true}
use Rattle.std.proofs.Common.{◌+◌, length}
use Rattle.trial_board.specs.Trials.{most_moves}
use Rattle.read_rules.specs.GameTree.{is_walled_in, has_lost_one_stone}
use Rattle.read_tree.specs.Walk.{IsReady}
use Rattle.read_tree.proofs.TakingLemmas.{IsFiltered-taken, IsFiltered-lost, lost_stated, lost_by_attacker, lost_free}
use Rattle.read_tree.proofs.TakingLemmas.{lost_lone}
use Rattle.read_tree.proofs.TakingLemmas.{lost_stones, lone_left, lone_read, no_liberties, back_nodes, back_spent}
use Rattle.read_tree.proofs.StandingNodes.{lost_node, near_loss, near_loss_sides, near_back, near_cell, near_beside}
use Rattle.read_tree.proofs.StandingNodes.{near_or_at}
use Rattle.read_tree.proofs.tree.+read.Goals.{taken-After-is_walled_in}
use Rattle.read_tree.proofs.tree.+read.Given.{Over}
use Rattle.read_tree.proofs.tree.+read.Goals.{some_of-After-succeeds-good, some_other-After-some_of-good}
use Rattle.read_tree.proofs.tree.+read.Goals.{some_success-After-some_of-good, attacker_wins-After-outlook_of}
use Rattle.read_tree.proofs.tree.+read.Goals.{some_capture_or_liberty-After-some_of-good}
use Rattle.read_tree.proofs.tree.+read.Goals.{defender_has_good_move-After-some_capture_or_liberty-close}
use Rattle.read_tree.proofs.tree.+read.Goals.{defender_has_good_move-After-pass_saves}
use Rattle.read_tree.proofs.tree.+read.Goals.{some_by_table-After-with-verdict}
use Rattle.read_tree.proofs.tree.+read.Goals as goal

-- the liberties after a legal play
pub succeeds-has_way-good-requires : goal.succeeds-has_way-good-requires
succeeds-has_way-good-requires g t c κs within =
    let table = table_more c.requires.ready.table
    (Grows-trans c.make.ensures.grows c.liberties_after-next.ensures.stays.grows) in
    let turn = c.args.turn in
    let carried = carried_on c.requires.ready (g.met.L.Look.sized c.args.board.now.look) c.args.p c.requires.on_board
    c.make.ensures.grows c.liberties_after-next.ensures.stays c.liberties_after-next.result
    c.liberties_after-next.ensures.over neither_may (under (next_turn turn) neither_may)
    (λ pos a. (rw c.in-Legal.is at (c.make.ensures.over pos a)) neither_may) in
    search rules

-- and after one by the own allowance
pub succeeds-has_way-good-requires-in-Allowed : goal.succeeds-has_way-good-requires-in-Allowed
succeeds-has_way-good-requires-in-Allowed g t c κs within =
    let table = table_more c.requires.ready.table
    (Grows-trans c.make.ensures.grows c.liberties_after-next-in-Allowed.ensures.stays.grows) in
    let turn = c.args.turn in
    let carried = carried_on c.requires.ready (g.met.L.Look.sized c.args.board.now.look) c.args.p c.requires.on_board
    c.make.ensures.grows c.liberties_after-next-in-Allowed.ensures.stays c.liberties_after-next-in-Allowed.result
    c.liberties_after-next-in-Allowed.ensures.over (own_ko turn.attacker_to_play)
    (under (next_turn turn) neither_may) (λ pos a. (rw c.in-Allowed.is at (c.make.ensures.over pos a)).0) in
    search rules

-- a legal play
pub succeeds-returns-in-Legal-clause-over : goal.succeeds-returns-in-Legal-clause-over
succeeds-returns-in-Legal-clause-over g t c = λ pos a.
    let a2 = rw c.back.ensures.moves at a in
    let a1 = agrees_before c.liberties_after-next.ensures.stays.grows
    (agrees_before c.has_way-good.ensures.stays.grows a2) in
    let new = after pos c.make.new.board.moves in
    let made = rw c.in-Legal.is at (c.make.ensures.over pos a1) in
    IsFiltered-same (rw c.liberties_after-next.ensures.stays.moves at (c.has_way-good.ensures.over pos a2))
    (λ ko. suits_child c.args.plies c.args.turn.attacker_to_play
    (child_of (under c.args.turn ko) (after pos c.args.board.now.moves) c.args.p)
    (under (next_turn c.args.turn) ko) new (made ko))

-- a play by the own allowance
pub succeeds-returns-in-Allowed-clause-over : goal.succeeds-returns-in-Allowed-clause-over
succeeds-returns-in-Allowed-clause-over g t c = λ pos a.
    let next = c.liberties_after-next-in-Allowed.ensures in
    let a2 = rw c.back-in-Allowed.ensures.moves at a in
    let a1 = agrees_before (Stays-trans next.stays c.has_way-good-in-Allowed.ensures.stays).grows a2 in
    let way = rw (c.neither_alone.ensures, next.stays.moves) at (c.has_way-good-in-Allowed.ensures.over pos a2) in
    rw c.own_where.ensures (told_allowed c.args.plies c.args.turn (after pos c.args.board.now.moves)
    (after pos c.make.new.board.moves) c.args.p c.args.asked c.has_way-good-in-Allowed.result.neither
    (sym c.has_own-own.ensures ∙ c.make.ensures.own c.in-Allowed.is)
    (rw c.in-Allowed.is at (c.make.ensures.over pos a1)) (way.each neither_may))

-- a refused play looks near its candidate
pub succeeds-returns-in-Not-clause-near : goal.succeeds-returns-in-Not-clause-near
succeeds-returns-in-Not-clause-near g t c = λ pos a q root tree und candidate.
    let a0 = agrees_before c.make.ensures.grows a in
    let node = undecided_node c.requires.ready (g.met.L.Look.sized c.args.board.now.look) a0 tree und in
    near_play node c.args.p candidate (c.make.ensures.near pos a)

-- a play that is made leads to nodes of the trees
pub succeeds-returns-in-Legal-clause-near : goal.succeeds-returns-in-Legal-clause-near
succeeds-returns-in-Legal-clause-near g t c = λ pos a q root tree und candidate.
    let later = Stays-trans c.liberties_after-next.ensures.stays c.has_way-good.ensures.stays in
    let a2 = rw c.back.ensures.moves at a in
    let a1 = agrees_before later.grows a2 in
    let node = undecided_node c.requires.ready (g.met.L.Look.sized c.args.board.now.look)
    (agrees_before c.make.ensures.grows a1) tree und in
    let nodes = legal_nodes c.args.p tree und candidate (rw c.in-Legal.is at (c.make.ensures.over pos a1)) in
    let below = (rw c.liberties_after-next.ensures.stays.moves at (c.has_way-good.ensures.near pos a2 q root)) nodes in
    rw c.back.ensures.moves (AddsNear-trans (near_play node c.args.p candidate (c.make.ensures.near pos a1))
    (near_child node c.liberties_after-next.ensures.near below))

-- one by the own allowance leads to a node under none
pub succeeds-returns-in-Allowed-clause-near : goal.succeeds-returns-in-Allowed-clause-near
succeeds-returns-in-Allowed-clause-near g t c = λ pos a q root tree und candidate.
    let next = c.liberties_after-next-in-Allowed.ensures in
    let a2 = rw c.back-in-Allowed.ensures.moves at a in
    let a1 = agrees_before (Stays-trans next.stays c.has_way-good-in-Allowed.ensures.stays).grows a2 in
    let node = undecided_node c.requires.ready (g.met.L.Look.sized c.args.board.now.look)
    (agrees_before c.make.ensures.grows a1) tree und in
    let asked = sym c.has_own-own.ensures ∙ c.make.ensures.own c.in-Allowed.is in
    let nodes = allowed_nodes c.args.p tree und candidate asked
    (rw c.in-Allowed.is at (c.make.ensures.over pos a1)).0 in
    let below = (rw (c.neither_alone.ensures, next.stays.moves) at
    (c.has_way-good-in-Allowed.ensures.near pos a2 q root)) nodes in
    rw c.back-in-Allowed.ensures.moves (AddsNear-trans (near_play node c.args.p candidate (c.make.ensures.near pos a1))
    (near_child node next.near below))

-- the looks of a play that would take back a lone stone, and that is refused, lie in the active area
pub succeeds-returns-in-Not-clause-back : goal.succeeds-returns-in-Not-clause-back
succeeds-returns-in-Not-clause-back g t c = λ same pos a q root tree lone.
    let a0 = agrees_before c.make.ensures.grows a in
    let node = lost_node _ (g.met.L.Look.sized c.args.board.now.look) a0 c.args.board.now.moves
    c.requires.ready.target c.requires.ready.some tree (and_parts _ _ lone).0 in
    near_loss node (rw same at (c.make.ensures.near pos a))

-- one that is made leads to nodes of the trees
pub succeeds-returns-in-Legal-clause-back : goal.succeeds-returns-in-Legal-clause-back
succeeds-returns-in-Legal-clause-back g t c = λ same pos a q root tree lone.
    let later = Stays-trans c.liberties_after-next.ensures.stays c.has_way-good.ensures.stays in
    let a2 = rw c.back.ensures.moves at a in
    let a1 = agrees_before later.grows a2 in
    let node = lost_node _ (g.met.L.Look.sized c.args.board.now.look) (agrees_before c.make.ensures.grows a1)
    c.args.board.now.moves c.requires.ready.target c.requires.ready.some tree (and_parts _ _ lone).0 in
    let nodes = back_nodes tree lone (rw same at (rw c.in-Legal.is at (c.make.ensures.over pos a1))) in
    let below = (rw c.liberties_after-next.ensures.stays.moves at (c.has_way-good.ensures.near pos a2 q root)) nodes in
    rw c.back.ensures.moves (AddsNear-trans (near_loss node (rw same at (c.make.ensures.near pos a1)))
    (near_back node c.liberties_after-next.ensures.near below))

-- one by the own allowance leads to a node under none
pub succeeds-returns-in-Allowed-clause-back : goal.succeeds-returns-in-Allowed-clause-back
succeeds-returns-in-Allowed-clause-back g t c = λ same pos a q root tree lone.
    let next = c.liberties_after-next-in-Allowed.ensures in
    let a2 = rw c.back-in-Allowed.ensures.moves at a in
    let a1 = agrees_before (Stays-trans next.stays c.has_way-good-in-Allowed.ensures.stays).grows a2 in
    let node = lost_node _ (g.met.L.Look.sized c.args.board.now.look) (agrees_before c.make.ensures.grows a1)
    c.args.board.now.moves c.requires.ready.target c.requires.ready.some tree (and_parts _ _ lone).0 in
    let asked = sym c.has_own-own.ensures ∙ c.make.ensures.own c.in-Allowed.is in
    let nodes = back_spent tree lone asked (rw same at (rw c.in-Allowed.is at (c.make.ensures.over pos a1)).0) in
    let below = (rw (c.neither_alone.ensures, next.stays.moves) at
    (c.has_way-good-in-Allowed.ensures.near pos a2 q root)) nodes in
    rw c.back-in-Allowed.ensures.moves (AddsNear-trans (near_loss node (rw same at (c.make.ensures.near pos a1)))
    (near_back node next.near below))

-- after the pass the table is true, and the target and its liberties are what they were
pub pass_saves-has_way-good-requires : goal.pass_saves-has_way-good-requires
pass_saves-has_way-good-requires g t c κs within =
    let stays = c.is_in_atari.ensures.stays in
    let table = table_more c.requires.ready.table stays.grows in
    let target = point_after stays c.args.turn.target c.requires.ready.target in
    let liberties = liberties_after stays c.args.turn.target c.args.known.now c.requires.ready.liberties in
    search rules

-- a target in atari is not saved by the pass
pub pass_saves-returns-then-is_in_atari-clause-over : goal.pass_saves-returns-then-is_in_atari-clause-over
pass_saves-returns-then-is_in_atari-clause-over g t c = λ pos a.
    let a0 = agrees_before c.is_in_atari.ensures.stays.grows a in
    let inside = on_after _ (g.met.L.Look.sized c.args.board.now.look) a0 c.args.board.now.moves
    c.requires.ready.target in
    rw c.none.ensures (IsFiltered-none c.args.asked _ (pass_fails c.args.plies c.args.turn
    (after pos c.args.board.now.moves) inside (c.is_in_atari.ensures.over pos a c.if-is_in_atari.true)))

-- the target's neighbourhood lies in the active area
pub pass_saves-returns-then-is_in_atari-clause-near : goal.pass_saves-returns-then-is_in_atari-clause-near
pass_saves-returns-then-is_in_atari-clause-near g t c = λ pos a q root tree stands.
    let a0 = agrees_before c.is_in_atari.ensures.stays.grows a in
    let node = ready_node c.requires.ready (g.met.L.Look.sized c.args.board.now.look) a0 tree stands in
    near_beside node (c.is_in_atari.ensures.near pos a)

-- after the pass
pub pass_saves-returns-clause-near : goal.pass_saves-returns-clause-near
pass_saves-returns-clause-near g t c = λ pos a q root tree stands.
    let a2 = rw c.back.ensures.moves at a in
    let a1 = rw c.pass.ensures at (agrees_before c.has_way-good.ensures.stays.grows a2) in
    let a0 = agrees_before c.is_in_atari.ensures.stays.grows a1 in
    let node = ready_node c.requires.ready (g.met.L.Look.sized c.args.board.now.look) a0 tree stands in
    let passed = rw (c.pass.ensures, c.is_in_atari.ensures.stays.moves) at
    (c.has_way-good.ensures.near pos a2 q root) in
    rw c.back.ensures.moves (AddsNear-trans (near_beside node (c.is_in_atari.ensures.near pos a1))
    (near_or_at node (passed (pass_nodes tree stands c.requires.defender))))

-- the points of the set are on the board
pub some_of-next_to_try-requires : goal.some_of-next_to_try-requires
some_of-next_to_try-requires g t c = λ p h. point_after c.loop-p.invariant.stays p (c.requires.on_board p h)

-- the next point and the target are on the board, and the known liberties are the target's
pub some_of-succeeds-good-requires : goal.some_of-succeeds-good-requires
some_of-succeeds-good-requires g t c κs within =
    let stays = Stays-trans c.loop-p.invariant.stays c.next_to_try.ensures.stays in
    let ready = ready_after stays c.loop-p.missing c.requires.ready c.loop-p.invariant.some
    (table_more c.loop-p.invariant.table c.next_to_try.ensures.stays.grows) in
    let on_board = point_after stays c.in-Some.p (c.requires.on_board c.in-Some.p c.in-Some.ensures.some.1) in
    search rules

-- nothing was tried
pub some_of-loop-p-init : goal.some_of-loop-p-init
some_of-loop-p-init g t c = record {
  stays = record { moves = refl; shown = refl; grows = Grows-refl _ };
  grows = Grows-refl _;
  some = c.requires.ready.some;
  table = c.requires.ready.table;
  near = λ pos a q root tree und its. nothing_near _ _;
  left = λ pos a. left_first c.args.plies c.args.turn (after pos c.args.board.now.moves)
      (set.contains c.args.points.now)
      (set.contains c.new-tried.result) c.args.asked (none_tried c.new-tried.result c.new-tried.ensures);
}

-- the choice of a point and the reading of its play look at the active area alone
tried_near : (g : Over) (t : ℕ) (c : some_of-After-succeeds-good g t) → LooksNearWhere g.L.Look.seen c.args.board.now
    c.succeeds-good.new.board (suc c.args.plies) c.args.turn c.args.asked (λ here. (p : ℕ)
    → set.contains c.args.points.now p ≡ true → is_candidate c.args.turn here p ≡ true)
tried_near g t c = λ pos a q root tree und its.
    let i = c.loop-p.invariant in
    let chosen = c.next_to_try.ensures.stays in
    let a2 = agrees_before c.succeeds-good.ensures.stays.grows a in
    let a1 = agrees_before chosen.grows a2 in
    let a0 = agrees_before i.stays.grows a1 in
    let node = undecided_node c.requires.ready (g.met.L.Look.sized c.args.board.now.look) a0 tree und in
    AddsNear-trans (i.near pos a1 q root tree und its)
    (AddsNear-trans (near_sides node c.args.known.now (c.requires.ready.liberties pos a0)
    (c.next_to_try.ensures.near pos a2))
    ((rw (chosen.moves ∙ i.stays.moves) at (c.succeeds-good.ensures.near pos a q root))
    (fewer_nodes c.loop-p.missing tree (i.left pos a1).asked_for) und (its c.in-Some.p c.in-Some.ensures.some.1)))

-- what the play at the chosen point leaves of what was missing, where now is what was tried with it
tried_left : (g : Over) (t : ℕ) (c : some_of-After-succeeds-good g t) (now : set.FinSet nat_cmp)
    → now ≡ set.insert c.loop-p.tried c.in-Some.p
    → OnEachAgreeing g.L.Look.seen c.args.board.now c.succeeds-good.new.board (λ here.
    IsLeft c.args.plies c.args.turn here (set.contains c.args.points.now) (set.contains now) c.args.asked
    (without c.loop-p.missing c.succeeds-good.result))
tried_left g t c now is = λ pos a.
    let i = c.loop-p.invariant in
    let chosen = c.next_to_try.ensures.stays in
    let a1 = agrees_before chosen.grows (agrees_before c.succeeds-good.ensures.stays.grows a) in
    left_next c.args.plies c.args.turn (after pos c.args.board.now.moves) (set.contains c.args.points.now)
    (set.contains c.loop-p.tried) (set.contains now) c.in-Some.p c.args.asked c.loop-p.missing
    c.succeeds-good.result (i.left pos a1) c.in-Some.ensures.some.1
    (newest_or_before c.loop-p.tried now c.in-Some.p is)
    (rw (chosen.moves ∙ i.stays.moves) at (c.succeeds-good.ensures.over pos a))

-- one more point
pub some_of-loop-p-preserved : goal.some_of-loop-p-preserved
some_of-loop-p-preserved g t c =
    let i = c.loop-p.invariant in
    let d = (goal.at.some_of-loop-p-preserved g t c).After-succeeds-good in
    let chosen = c.next_to_try.ensures.stays in
    let later = c.succeeds-good.ensures.stays in
    record {
      stays = Stays-trans i.stays (Stays-trans chosen later);
      grows = Grows-trans i.grows (Grows-trans chosen.grows later.grows);
      some = sym c.has_some.ensures ∙ c.if-not-has_some.false;
      table = c.succeeds-good.ensures.table;
      near = tried_near g t d;
      left = λ pos a. rw c.without-missing.ensures (tried_left g t d c.add.new.self c.add.ensures pos a);
    }

-- fewer points are left
pub some_of-loop-p-smaller : goal.some_of-loop-p-smaller
some_of-loop-p-smaller g t c =
    let first = c.in-Some.ensures.some in
    fewer_left _ c.loop-p.tried c.add.new.self c.in-Some.p c.add.ensures first.0 first.2

-- all that was asked is given
pub some_of-returns-then-not-has_some-clause-over : goal.some_of-returns-then-not-has_some-clause-over
some_of-returns-then-not-has_some-clause-over g t c = λ pos a.
    let d = (goal.at.some_of-returns-then-not-has_some-clause-over g t c).After-succeeds-good in
    let now = set.insert c.loop-p.tried c.in-Some.p in
    by_done c.args.plies c.args.turn (after pos c.args.board.now.moves) (set.contains c.args.points.now)
    (set.contains now) c.args.asked (without c.loop-p.missing c.succeeds-good.result) (tried_left g t d now refl pos a)
    (sym (c.has_some.ensures ∙ ap has_some c.without-missing.ensures) ∙ c.if-not-has_some.true)

-- the choice of the last point and the reading of its play look at the active area alone
pub some_of-returns-then-not-has_some-clause-near : goal.some_of-returns-then-not-has_some-clause-near
some_of-returns-then-not-has_some-clause-near g t c =
    tried_near g t (goal.at.some_of-returns-then-not-has_some-clause-near g t c).After-succeeds-good

-- no point is left
pub some_of-returns-clause-over : goal.some_of-returns-clause-over
some_of-returns-clause-over g t c = λ pos a.
    rw c.without.ensures (by_over c.args.plies c.args.turn (after pos c.args.board.now.moves)
    (set.contains c.args.points.now) (set.contains c.loop-p.tried) c.args.asked c.loop-p.missing
    (c.loop-p.invariant.left pos (agrees_before c.next_to_try.ensures.stays.grows a))
    (none_left (set.contains c.args.points.now) (set.contains c.loop-p.tried) c.in_default.ensures.none))

-- where no point is left, the looks for one lie in the active area
pub some_of-returns-clause-near : goal.some_of-returns-clause-near
some_of-returns-clause-near g t c = λ pos a q root tree und its.
    let i = c.loop-p.invariant in
    let a1 = agrees_before c.next_to_try.ensures.stays.grows a in
    let a0 = agrees_before i.stays.grows a1 in
    let node = undecided_node c.requires.ready (g.met.L.Look.sized c.args.board.now.look) a0 tree und in
    AddsNear-trans (i.near pos a1 q root tree und its)
    (near_sides node c.args.known.now (c.requires.ready.liberties pos a0) (c.next_to_try.ensures.near pos a))

-- there are no later candidates
pub some_later-returns-then-not-has_later_candidates-clause-over : goal.some_later-returns-then-not-has_later_candidates-clause-over
some_later-returns-then-not-has_later_candidates-clause-over g t c = λ pos a.
    let here = after pos c.args.board.now.moves in
    let turn = c.args.turn in
    let no_later = sym c.has_later_candidates.ensures ∙ c.if-not-has_later_candidates.true in
    rw c.none.ensures (by_none c.args.plies turn here (is_other turn here) c.args.asked
    (λ ko q. ap (λ b. b && succeeds c.args.plies (under turn ko) here q) (no_other turn here q no_later)))

-- a target in atari is saved by no later candidate
pub some_later-returns-then-is_in_atari-clause-over : goal.some_later-returns-then-is_in_atari-clause-over
some_later-returns-then-is_in_atari-clause-over g t c = λ pos a.
    let here = after pos c.args.board.now.moves in
    let turn = c.args.turn in
    let a0 = agrees_before c.is_in_atari.ensures.stays.grows a in
    let inside = on_after _ (g.met.L.Look.sized c.args.board.now.look) a0 c.args.board.now.moves
    c.requires.ready.target in
    let atari = c.is_in_atari.ensures.over pos a c.if-is_in_atari.true in
    rw c.none-then-is_in_atari.ensures (by_failing c.args.plies turn here (is_other turn here) c.args.asked
    (λ ko q is. atari_fails c.args.plies turn here inside atari ko q (other_is_off turn here q is)
    (other_no_capture turn here q is)))

-- the target's point, by which an atari is told, lies in the active area
pub some_later-returns-then-is_in_atari-clause-near : goal.some_later-returns-then-is_in_atari-clause-near
some_later-returns-then-is_in_atari-clause-near g t c = λ pos a q root tree und.
    let a0 = agrees_before c.is_in_atari.ensures.stays.grows a in
    let node = undecided_node c.requires.ready (g.met.L.Look.sized c.args.board.now.look) a0 tree und in
    near_beside node (c.is_in_atari.ensures.near pos a)

-- what the captures are is still known after the look for an atari
pub some_later-others_of-others-requires-clause-captures : goal.some_later-others_of-others-requires-clause-captures
some_later-others_of-others-requires-clause-captures g t c =
    captures_after c.is_in_atari.ensures.stays c.args.turn.target c.args.captures.now c.requires.captures

-- the others are on the board
pub some_later-some_of-requires : goal.some_later-some_of-requires
some_later-some_of-requires g t c κs within =
    let others = c.others_of-others.ensures in
    let stays = Stays-trans c.is_in_atari.ensures.stays others.stays in
    let ready = ready_after stays c.args.asked c.requires.ready c.requires.ready.some
    (table_more c.requires.ready.table stays.grows) in
    let inside = candidates_inside stays c.args.turn c.others_of-others.result
    (g.met.L.Look.holds c.others_of-others.new.board.look)
    (λ pos a p h. other_is_candidate c.args.turn (after pos c.args.board.now.moves) p
    (sym (rw c.is_in_atari.ensures.stays.moves at (others.over pos a p)) ∙ h)) in
    search rules

-- the points that were found are the others
pub some_later-returns-clause-over : goal.some_later-returns-clause-over
some_later-returns-clause-over g t c = λ pos a.
    let here = after pos c.args.board.now.moves in
    let turn = c.args.turn in
    let others = c.others_of-others.ensures in
    let a1 = agrees_before c.some_of.ensures.stays.grows a in
    by_same c.args.plies turn here (set.contains c.others_of-others.result) (is_other turn here)
    c.args.asked c.some_of.result
    (λ q. rw c.is_in_atari.ensures.stays.moves at (others.over pos a1 q))
    (rw (Stays-trans c.is_in_atari.ensures.stays others.stays).moves at (c.some_of.ensures.over pos a))

-- the looks for the others and at their plays lie in the active area
pub some_later-returns-clause-near : goal.some_later-returns-clause-near
some_later-returns-clause-near g t c = λ pos a q root tree und.
    let others = c.others_of-others.ensures in
    let atari = c.is_in_atari.ensures in
    let a1 = agrees_before c.some_of.ensures.stays.grows a in
    let a0 = agrees_before (Stays-trans atari.stays others.stays).grows a1 in
    let node = undecided_node c.requires.ready (g.met.L.Look.sized c.args.board.now.look) a0 tree und in
    AddsNear-trans (near_beside node (atari.near pos (agrees_before others.stays.grows a1)))
    (AddsNear-trans (near_wide node (rw atari.stays.moves at (others.near pos a1)))
    ((rw (Stays-trans atari.stays others.stays).moves at (c.some_of.ensures.near pos a q root)) tree und
    (λ p h. other_is_candidate c.args.turn (after pos c.args.board.now.moves) p
    (sym (rw atari.stays.moves at (others.over pos a1 p)) ∙ h))))

-- the captures are on the board
pub some_other-some_of-good-requires : goal.some_other-some_of-good-requires
some_other-some_of-good-requires g t c κs within =
    let captures = c.captures_of-captures.ensures in
    let ready = ready_after captures.stays c.args.asked c.requires c.requires.some
    (table_more c.requires.table captures.stays.grows) in
    let inside = candidates_inside captures.stays c.args.turn c.captures_of-captures.result
    (g.met.L.Look.holds c.captures_of-captures.new.board.look)
    (λ pos a p h. capture_is_candidate c.args.turn (after pos c.args.board.now.moves) p
    (sym (captures.over pos a p) ∙ h)) in
    search rules

-- what the captures are is still known once they were tried
pub some_other-some_later-later-requires : goal.some_other-some_later-later-requires
some_other-some_later-later-requires g t c κs within =
    let found = c.captures_of-captures.ensures in
    let stays = Stays-trans found.stays c.some_of-good.ensures.stays in
    let ready = ready_after stays c.without-missing.result c.requires
    (sym c.has_some.ensures ∙ c.if-not-has_some.false) c.some_of-good.ensures.table in
    let captures = captures_after c.some_of-good.ensures.stays c.args.turn.target c.captures_of-captures.result
    (captures_found found.stays c.args.turn.target c.captures_of-captures.result found.over) in
    search rules

-- too many liberties would be left
pub some_other-returns-then-leaves_too_many-clause-over : goal.some_other-returns-then-leaves_too_many-clause-over
some_other-returns-then-leaves_too_many-clause-over g t c = λ pos a.
    let here = after pos c.args.board.now.moves in
    let turn = c.args.turn in
    let inside = on_after _ (g.met.L.Look.sized c.args.board.now.look) a c.args.board.now.moves c.requires.target in
    let both = and_parts turn.attacker_to_play (outlasts turn.tree false c.args.plies (turn.wide - 1) c.count.result)
    (sym c.leaves_too_many.ensures ∙ c.if-leaves_too_many.true) in
    let counted = c.count.ensures.value ∙ its_count pos.size here turn.target c.args.known.now
    (size-after pos c.args.board.now.moves) (c.requires.liberties pos a) in
    rw c.none.ensures (by_none c.args.plies turn here (is_off_liberties turn here) c.args.asked
    (none_other c.args.plies turn here inside both.0
    (ap (λ n. outlasts turn.tree false c.args.plies (turn.wide - 1) n) (sym counted) ∙ both.1)))

-- the captures give all that was asked
pub some_other-returns-then-not-has_some-clause-over : goal.some_other-returns-then-not-has_some-clause-over
some_other-returns-then-not-has_some-clause-over g t c = λ pos a.
    let a1 = agrees_before c.some_of-good.ensures.stays.grows a in
    let here = after pos c.args.board.now.moves in
    let turn = c.args.turn in
    by_enough c.args.plies turn here (set.contains c.captures_of-captures.result) (is_off_liberties turn here)
    c.args.asked c.some_of-good.result
    (rw c.captures_of-captures.ensures.stays.moves at (c.some_of-good.ensures.over pos a))
    (λ q h. capture_is_off turn here q (sym (c.captures_of-captures.ensures.over pos a1 q) ∙ h))
    (sym (c.has_some.ensures ∙ ap has_some c.without-missing.ensures) ∙ c.if-not-has_some.true)

-- what the captures left is asked of the later candidates
pub some_other-returns-clause-over : goal.some_other-returns-clause-over
some_other-returns-clause-over g t c = λ pos a.
    let here = after pos c.args.board.now.moves in
    let turn = c.args.turn in
    let captures = c.captures_of-captures.ensures in
    let a2 = agrees_before c.some_later-later.ensures.stays.grows a in
    let a1 = agrees_before c.some_of-good.ensures.stays.grows a2 in
    rw (c.without-2.ensures, c.without.ensures, c.without-missing.ensures)
    (by_both c.args.plies turn here (set.contains c.captures_of-captures.result)
    (is_off_liberties turn here) c.args.asked c.some_of-good.result
    (rw captures.stays.moves at (c.some_of-good.ensures.over pos a2))
    (is_other turn here) c.some_later-later.result
    (λ q. off_by_stages turn here q ∙ ap (λ b. b || is_other turn here q) (sym (captures.over pos a1 q))) (rw (
      (Stays-trans captures.stays c.some_of-good.ensures.stays).moves,
      c.without-missing.ensures,
    ) at (c.some_later-later.ensures.over pos a)))

-- the looks for the captures and at their plays lie in the active area
good_near : (g : Over) (t : ℕ) (c : some_other-After-some_of-good g t) → LooksNear g.L.Look.seen c.args.board.now
    c.some_of-good.new.board (suc c.args.plies) c.args.turn c.args.asked
good_near g t c = λ pos a q root tree und.
    let captures = c.captures_of-captures.ensures in
    let a1 = agrees_before c.some_of-good.ensures.stays.grows a in
    let a0 = agrees_before captures.stays.grows a1 in
    let node = undecided_node c.requires (g.met.L.Look.sized c.args.board.now.look) a0 tree und in
    AddsNear-trans (near_captures node (captures.near pos a1))
    ((rw captures.stays.moves at (c.some_of-good.ensures.near pos a q root)) tree und
    (λ p h. capture_is_candidate c.args.turn (after pos c.args.board.now.moves) p
    (sym (captures.over pos a1 p) ∙ h)))

-- the looks for the captures and at their plays lie in the active area
pub some_other-returns-then-not-has_some-clause-near : goal.some_other-returns-then-not-has_some-clause-near
some_other-returns-then-not-has_some-clause-near g t c = λ pos a.
    good_near g t (goal.at.some_other-returns-then-not-has_some-clause-near g t c).After-some_of-good pos a

-- so do the looks for the later candidates and at their plays
pub some_other-returns-clause-near : goal.some_other-returns-clause-near
some_other-returns-clause-near g t c = λ pos a q root tree und.
    let d = (goal.at.some_other-returns-clause-near g t c).After-some_of-good in
    let before = Stays-trans c.captures_of-captures.ensures.stays c.some_of-good.ensures.stays in
    let a2 = agrees_before c.some_later-later.ensures.stays.grows a in
    AddsNear-trans (good_near g t d pos a2 q root tree und)
    ((rw before.moves at (c.some_later-later.ensures.near pos a q root))
    (left_nodes c.some_of-good.result tree c.without-missing.ensures) und)

-- a liberty is on the board
pub some_success-some_of-good-requires : goal.some_success-some_of-good-requires
some_success-some_of-good-requires g t c κs within =
    let shown = g.L.Look.shows c.args.board.now.look in
    let inside : (p : ℕ) → set.contains c.args.known.now p ≡ true → p < shown.size * shown.size =
    λ p h. known_inside shown.size (after shown c.args.board.now.moves).cells c.args.turn.target p c.args.known.now
    (c.requires.liberties shown (g.met.L.Look.holds c.args.board.now.look)) h in
    search rules

-- what the plays at the liberties give
liberties_told : (g : Over) (t : ℕ) (c : some_success-After-some_of-good g t) → OnEachAgreeing g.L.Look.seen
    c.args.board.now c.some_of-good.new.board (λ here. TellsBy c.args.plies c.args.turn here
    (is_liberty here.size here.cells c.args.turn.target) c.args.asked c.some_of-good.result)
liberties_told g t c = λ pos a.
    let here = after pos c.args.board.now.moves in
    by_same c.args.plies c.args.turn here (set.contains c.args.known.now)
    (is_liberty here.size here.cells c.args.turn.target) c.args.asked c.some_of-good.result
    (its_liberty pos.size here c.args.turn.target c.args.known.now (size-after pos c.args.board.now.moves)
    (c.requires.liberties pos (agrees_before c.some_of-good.ensures.stays.grows a))) (c.some_of-good.ensures.over pos a)

-- these plays are looked at in the active area
liberties_near : (g : Over) (t : ℕ) (c : some_success-After-some_of-good g t) → LooksNear g.L.Look.seen
    c.args.board.now c.some_of-good.new.board (suc c.args.plies) c.args.turn c.args.asked
liberties_near g t c = λ pos a q root tree und.
    let here = after pos c.args.board.now.moves in
    c.some_of-good.ensures.near pos a q root tree und (λ p h. liberty_is_candidate c.args.turn here p
    (sym (its_liberty pos.size here c.args.turn.target c.args.known.now (size-after pos c.args.board.now.moves)
    (c.requires.liberties pos (agrees_before c.some_of-good.ensures.stays.grows a)) p) ∙ h))

-- the liberties give all that was asked
pub some_success-returns-then-not-has_some-clause-over : goal.some_success-returns-then-not-has_some-clause-over
some_success-returns-then-not-has_some-clause-over g t c = λ pos a.
    let d = (goal.at.some_success-returns-then-not-has_some-clause-over g t c).After-some_of-good in
    stage_done c.args.plies c.args.turn (after pos c.args.board.now.moves) c.args.asked c.some_of-good.result
    (liberties_told g t d pos a)
    (sym (c.has_some.ensures ∙ ap has_some c.without-missing.ensures) ∙ c.if-not-has_some.true)

-- the plays at the liberties are looked at in the active area
pub some_success-returns-then-not-has_some-clause-near : goal.some_success-returns-then-not-has_some-clause-near
some_success-returns-then-not-has_some-clause-near g t c =
    liberties_near g t (goal.at.some_success-returns-then-not-has_some-clause-near g t c).After-some_of-good

-- what they left is asked of the others
pub some_success-returns-clause-over : goal.some_success-returns-clause-over
some_success-returns-clause-over g t c = λ pos a.
    let d = (goal.at.some_success-returns-clause-over g t c).After-some_of-good in
    rw (c.without-2.ensures, c.without.ensures, c.without-missing.ensures)
    (stage_over c.args.plies c.args.turn (after pos c.args.board.now.moves) c.args.asked c.some_of-good.result
    (liberties_told g t d pos (agrees_before c.some_other-rest.ensures.stays.grows a))
    c.some_other-rest.result (rw (
      c.some_of-good.ensures.stays.moves,
      c.without-missing.ensures,
    ) at (c.some_other-rest.ensures.over pos a)))

-- the plays at the liberties and those elsewhere are looked at in the active area
pub some_success-returns-clause-near : goal.some_success-returns-clause-near
some_success-returns-clause-near g t c = λ pos a q root tree und.
    let d = (goal.at.some_success-returns-clause-near g t c).After-some_of-good in
    AddsNear-trans (liberties_near g t d pos (agrees_before c.some_other-rest.ensures.stays.grows a) q root tree und)
    ((rw c.some_of-good.ensures.stays.moves at (c.some_other-rest.ensures.near pos a q root))
    (left_nodes c.some_of-good.result tree c.without-missing.ensures) und)

-- the attacker's candidates
pub has_good_move-returns-then-turn-clause-over : goal.has_good_move-returns-then-turn-clause-over
has_good_move-returns-then-turn-clause-over g t c = λ pos a und.
    let here = after pos c.args.board.now.moves in
    IsFiltered-same (c.some_by_table.ensures.over pos a)
    (λ ko. good_attacker c.args.turn.attacker_to_play (has_many_liberties c.args.turn here) _
    (first_success c.args.plies (under c.args.turn ko) here) c.if-turn.true ((und ko).few c.if-turn.true))

-- what is known is on the board
pub has_good_move-escapes-requires-clause-inside : goal.has_good_move-escapes-requires-clause-inside
has_good_move-escapes-requires-clause-inside g t c = λ p h.
    let shown = g.L.Look.shows c.args.board.now.look in
    known_inside shown.size (after shown c.args.board.now.moves).cells c.args.turn.target p c.args.known.now
    (c.requires.liberties shown (g.met.L.Look.holds c.args.board.now.look)) h

-- a defender who escapes has a good move
pub has_good_move-returns-then-escapes-clause-over : goal.has_good_move-returns-then-escapes-clause-over
has_good_move-returns-then-escapes-clause-over g t c = λ pos a und.
    let here = after pos c.args.board.now.moves in
    let turn = c.args.turn in
    let a0 = agrees_before c.escapes.ensures.stays.grows a in
    let inside = on_after _ (g.met.L.Look.sized c.args.board.now.look) a0 c.args.board.now.moves c.requires.target in
    let its = its_liberty pos.size here turn.target c.args.known.now (size-after pos c.args.board.now.moves)
    (c.requires.liberties pos a0) in
    let way = c.escapes.ensures.over pos a c.if-escapes.true in
    IsFiltered-all c.args.asked _ (λ ko. good_by_success c.args.plies turn here ko c.if-turn.false
    (success_some c.args.plies (under turn ko) here way.l
    (liberty_is_candidate turn here way.l (sym (its way.l) ∙ way.there))
    (escape_succeeds c.args.plies turn here c.args.known.now
    (whole_after pos c.args.board.now.moves a.sound.cells) inside c.if-turn.false its way ko)))

-- the looks for an escape lie in the active area
pub has_good_move-returns-then-escapes-clause-near : goal.has_good_move-returns-then-escapes-clause-near
has_good_move-returns-then-escapes-clause-near g t c = λ pos a q root tree und.
    let a0 = agrees_before c.escapes.ensures.stays.grows a in
    let node = undecided_node c.requires (g.met.L.Look.sized c.args.board.now.look) a0 tree und in
    near_escape node c.args.known.now (c.requires.liberties pos a0) (c.escapes.ensures.near pos a)

-- the defender's captures, liberties, pass and later candidates
pub has_good_move-returns-clause-over : goal.has_good_move-returns-clause-over
has_good_move-returns-clause-over g t c = λ pos a und.
    rw c.escapes.ensures.stays.moves at (c.defender_has_good_move.ensures.over pos a)

-- the looks for an escape and those of the defender's moves lie in the active area
pub has_good_move-returns-clause-near : goal.has_good_move-returns-clause-near
has_good_move-returns-clause-near g t c = λ pos a q root tree und.
    let a1 = agrees_before c.defender_has_good_move.ensures.stays.grows a in
    let a0 = agrees_before c.escapes.ensures.stays.grows a1 in
    let node = undecided_node c.requires (g.met.L.Look.sized c.args.board.now.look) a0 tree und in
    AddsNear-trans (near_escape node c.args.known.now (c.requires.liberties pos a0) (c.escapes.ensures.near pos a1))
    ((rw c.escapes.ensures.stays.moves at (c.defender_has_good_move.ensures.near pos a q root)) tree und)

-- the captures are on the board
pub some_capture_or_liberty-some_of-good-requires : goal.some_capture_or_liberty-some_of-good-requires
some_capture_or_liberty-some_of-good-requires g t c κs within =
    let shown = g.L.Look.shows c.args.board.now.look in
    let inside : (p : ℕ) → set.contains c.args.captures.now p ≡ true → p < shown.size * shown.size =
    λ p h. candidate_inside c.args.turn shown c.args.board.now.moves p
    (capture_is_candidate c.args.turn (after shown c.args.board.now.moves) p
    (sym (c.requires.captures shown (g.met.L.Look.holds c.args.board.now.look) p) ∙ h)) in
    search rules

-- the liberties are on the board
pub some_capture_or_liberty-some_of-rest-requires : goal.some_capture_or_liberty-some_of-rest-requires
some_capture_or_liberty-some_of-rest-requires g t c κs within =
    let stays = c.some_of-good.ensures.stays in
    let ready = ready_after stays c.without-missing.result c.requires.ready
    (sym c.has_some.ensures ∙ c.if-not-has_some.false) c.some_of-good.ensures.table in
    let shown = g.L.Look.shows c.args.board.now.look in
    let inside : (p : ℕ) → set.contains c.args.known.now p ≡ true
    → IsPointOf g.L.Look.shows c.some_of-good.new.board p =
    λ p h. point_after stays p (known_inside shown.size (after shown c.args.board.now.moves).cells c.args.turn.target p
    c.args.known.now (c.requires.ready.liberties shown (g.met.L.Look.holds c.args.board.now.look)) h) in
    search rules

-- the captures give all that was asked
pub some_capture_or_liberty-returns-then-not-has_some-clause-over : goal.some_capture_or_liberty-returns-then-not-has_some-clause-over
some_capture_or_liberty-returns-then-not-has_some-clause-over g t c = λ pos a.
    let here = after pos c.args.board.now.moves in
    let a0 = agrees_before c.some_of-good.ensures.stays.grows a in
    by_enough c.args.plies c.args.turn here (set.contains c.args.captures.now)
    (is_capture_or_liberty here c.args.turn.target) c.args.asked c.some_of-good.result
    (c.some_of-good.ensures.over pos a)
    (λ q h. or_left _ _ (sym (c.requires.captures pos a0 q) ∙ h))
    (sym (c.has_some.ensures ∙ ap has_some c.without-missing.ensures) ∙ c.if-not-has_some.true)

-- what they left is asked of the liberties
pub some_capture_or_liberty-returns-clause-over : goal.some_capture_or_liberty-returns-clause-over
some_capture_or_liberty-returns-clause-over g t c = λ pos a.
    let here = after pos c.args.board.now.moves in
    let turn = c.args.turn in
    let a1 = agrees_before c.some_of-rest.ensures.stays.grows a in
    let a0 = agrees_before c.some_of-good.ensures.stays.grows a1 in
    let its = its_liberty pos.size here turn.target c.args.known.now (size-after pos c.args.board.now.moves)
    (c.requires.ready.liberties pos a0) in
    rw (c.without-2.ensures, c.without.ensures, c.without-missing.ensures)
    (by_both c.args.plies turn here (set.contains c.args.captures.now)
    (is_capture_or_liberty here turn.target) c.args.asked c.some_of-good.result
    (c.some_of-good.ensures.over pos a1) (set.contains c.args.known.now) c.some_of-rest.result
    (λ q. ap (λ b. b || is_liberty here.size here.cells turn.target q) (sym (c.requires.captures pos a0 q))
    ∙ ap (λ b. set.contains c.args.captures.now q || b) (sym (its q))) (rw (
      c.some_of-good.ensures.stays.moves,
      c.without-missing.ensures,
    ) at (c.some_of-rest.ensures.over pos a)))

-- the looks at the captures lie in the active area
captures_near : (g : Over) (t : ℕ) (c : some_capture_or_liberty-After-some_of-good g t)
    → LooksNear g.L.Look.seen c.args.board.now c.some_of-good.new.board (suc c.args.plies) c.args.turn c.args.asked
captures_near g t c = λ pos a q root tree und.
    let a0 = agrees_before c.some_of-good.ensures.stays.grows a in
    c.some_of-good.ensures.near pos a q root tree und
    (λ p h. capture_is_candidate c.args.turn (after pos c.args.board.now.moves) p
    (sym (c.requires.captures pos a0 p) ∙ h))

-- also if they give all that was asked
pub some_capture_or_liberty-returns-then-not-has_some-clause-near : goal.some_capture_or_liberty-returns-then-not-has_some-clause-near
some_capture_or_liberty-returns-then-not-has_some-clause-near g t c = captures_near g t
    (goal.at.some_capture_or_liberty-returns-then-not-has_some-clause-near g t c).After-some_of-good

-- so do the looks at the liberties
pub some_capture_or_liberty-returns-clause-near : goal.some_capture_or_liberty-returns-clause-near
some_capture_or_liberty-returns-clause-near g t c = λ pos a q root tree und.
    let d = (goal.at.some_capture_or_liberty-returns-clause-near g t c).After-some_of-good in
    let here = after pos c.args.board.now.moves in
    let a1 = agrees_before c.some_of-rest.ensures.stays.grows a in
    let its = its_liberty pos.size here c.args.turn.target c.args.known.now (size-after pos c.args.board.now.moves)
    (c.requires.ready.liberties pos (agrees_before c.some_of-good.ensures.stays.grows a1)) in
    AddsNear-trans (captures_near g t d pos a1 q root tree und)
    ((rw c.some_of-good.ensures.stays.moves at (c.some_of-rest.ensures.near pos a q root))
    (left_nodes c.some_of-good.result tree c.without-missing.ensures) und
    (λ p h. liberty_is_candidate c.args.turn here p (sym (its p) ∙ h)))

-- the captures that were found are next to the target
pub defender_has_good_move-some_capture_or_liberty-close-requires : goal.defender_has_good_move-some_capture_or_liberty-close-requires
defender_has_good_move-some_capture_or_liberty-close-requires g t c κs within =
    let found = c.captures_of-captures.ensures in
    let ready = ready_after found.stays c.args.asked c.requires.ready c.requires.ready.some
    (table_more c.requires.ready.table found.stays.grows) in
    let captures = captures_found found.stays c.args.turn.target c.captures_of-captures.result found.over in
    search rules

-- the pass is read for what they and the liberties left
pub defender_has_good_move-pass_saves-requires : goal.defender_has_good_move-pass_saves-requires
defender_has_good_move-pass_saves-requires g t c κs within =
    let close = c.some_capture_or_liberty-close.ensures in
    let ready = ready_after (Stays-trans c.captures_of-captures.ensures.stays close.stays) c.without-missing.result
    c.requires.ready (sym c.has_some.ensures ∙ c.if-not-has_some.false) close.table in
    search rules

-- the later candidates for what it left
pub defender_has_good_move-some_later-later-requires : goal.defender_has_good_move-some_later-later-requires
defender_has_good_move-some_later-later-requires g t c κs within =
    let found = c.captures_of-captures.ensures in
    let tried = Stays-trans c.some_capture_or_liberty-close.ensures.stays c.pass_saves.ensures.stays in
    let ready = ready_after (Stays-trans found.stays tried) c.without-lost.result c.requires.ready
    (sym c.has_some-2.ensures ∙ c.if-not-has_some-2.false) c.pass_saves.ensures.table in
    let captures = captures_after tried c.args.turn.target c.captures_of-captures.result
    (captures_found found.stays c.args.turn.target c.captures_of-captures.result found.over) in
    search rules

-- the captures and the liberties give all that was asked
pub defender_has_good_move-returns-then-not-has_some-clause-over : goal.defender_has_good_move-returns-then-not-has_some-clause-over
defender_has_good_move-returns-then-not-has_some-clause-over g t c = λ pos a.
    close_done c.args.plies c.args.turn (after pos c.args.board.now.moves) c.args.asked
    c.some_capture_or_liberty-close.result c.requires.defender
    (rw c.captures_of-captures.ensures.stays.moves at (c.some_capture_or_liberty-close.ensures.over pos a))
    (sym (c.has_some.ensures ∙ ap has_some c.without-missing.ensures) ∙ c.if-not-has_some.true)

-- the pass gives the rest
pub defender_has_good_move-returns-then-not-has_some-2-clause-over : goal.defender_has_good_move-returns-then-not-has_some-2-clause-over
defender_has_good_move-returns-then-not-has_some-2-clause-over g t c = λ pos a.
    let found = c.captures_of-captures.ensures.stays in
    let close = c.some_capture_or_liberty-close.ensures in
    let a1 = agrees_before c.pass_saves.ensures.stays.grows a in
    pass_done c.args.plies c.args.turn (after pos c.args.board.now.moves) c.args.asked
    c.some_capture_or_liberty-close.result c.pass_saves.result c.requires.defender
    (rw found.moves at (close.over pos a1)) (rw (
      (Stays-trans found close.stays).moves,
      c.without-missing.ensures,
    ) at (c.pass_saves.ensures.over pos a))
    (rw c.without-missing.ensures at (sym (c.has_some-2.ensures ∙ ap has_some c.without-lost.ensures)
    ∙ c.if-not-has_some-2.true))

-- the later candidates are tried last
pub defender_has_good_move-returns-clause-over : goal.defender_has_good_move-returns-clause-over
defender_has_good_move-returns-clause-over g t c = λ pos a.
    let found = c.captures_of-captures.ensures.stays in
    let close = c.some_capture_or_liberty-close.ensures in
    let a2 = agrees_before c.some_later-later.ensures.stays.grows a in
    let a1 = agrees_before c.pass_saves.ensures.stays.grows a2 in
    rw (c.without-2.ensures, c.without.ensures, c.without-lost.ensures, c.without-missing.ensures)
    (later_over c.args.plies c.args.turn (after pos c.args.board.now.moves) c.args.asked
    c.some_capture_or_liberty-close.result c.pass_saves.result c.requires.defender
    (rw found.moves at (close.over pos a1)) (rw (
      (Stays-trans found close.stays).moves,
      c.without-missing.ensures,
    ) at (c.pass_saves.ensures.over pos a2)) c.some_later-later.result (rw (
      (Stays-trans found (Stays-trans close.stays c.pass_saves.ensures.stays)).moves,
      c.without-lost.ensures,
      c.without-missing.ensures,
    ) at (c.some_later-later.ensures.over pos a)))

-- the looks for the captures, at them and at the liberties lie in the active area
close_near : (g : Over) (t : ℕ) (c : defender_has_good_move-After-some_capture_or_liberty-close g t)
    → LooksNear g.L.Look.seen c.args.board.now c.some_capture_or_liberty-close.new.board (suc c.args.plies) c.args.turn
    c.args.asked
close_near g t c = λ pos a q root tree und.
    let found = c.captures_of-captures.ensures in
    let a1 = agrees_before c.some_capture_or_liberty-close.ensures.stays.grows a in
    let a0 = agrees_before found.stays.grows a1 in
    let node = undecided_node c.requires.ready (g.met.L.Look.sized c.args.board.now.look) a0 tree und in
    AddsNear-trans (near_captures node (found.near pos a1))
    ((rw found.stays.moves at (c.some_capture_or_liberty-close.ensures.near pos a q root)) tree und)

-- also if these give all that was asked
pub defender_has_good_move-returns-then-not-has_some-clause-near : goal.defender_has_good_move-returns-then-not-has_some-clause-near
defender_has_good_move-returns-then-not-has_some-clause-near g t c = close_near g t
    (goal.at.defender_has_good_move-returns-then-not-has_some-clause-near g t c).After-some_capture_or_liberty-close

-- so do the looks after the pass
saved_near : (g : Over) (t : ℕ) (c : defender_has_good_move-After-pass_saves g t)
    → LooksNear g.L.Look.seen c.args.board.now c.some_capture_or_liberty-close.new.board (suc c.args.plies) c.args.turn
    c.args.asked
    → LooksNear g.L.Look.seen c.args.board.now c.pass_saves.new.board (suc c.args.plies) c.args.turn c.args.asked
saved_near g t c close = λ pos a q root tree und.
    let before = Stays-trans c.captures_of-captures.ensures.stays c.some_capture_or_liberty-close.ensures.stays in
    AddsNear-trans (close pos (agrees_before c.pass_saves.ensures.stays.grows a) q root tree und)
    ((rw before.moves at (c.pass_saves.ensures.near pos a q root))
    (left_nodes c.some_capture_or_liberty-close.result tree c.without-missing.ensures) (und neither_may).stands)

-- also if the pass gives the rest
pub defender_has_good_move-returns-then-not-has_some-2-clause-near : goal.defender_has_good_move-returns-then-not-has_some-2-clause-near
defender_has_good_move-returns-then-not-has_some-2-clause-near g t c =
    let d = goal.at.defender_has_good_move-returns-then-not-has_some-2-clause-near g t c in
    saved_near g t d.After-pass_saves (close_near g t d.After-some_capture_or_liberty-close)

-- and so do the looks for the later candidates and at their plays
pub defender_has_good_move-returns-clause-near : goal.defender_has_good_move-returns-clause-near
defender_has_good_move-returns-clause-near g t c = λ pos a q root tree und.
    let d = goal.at.defender_has_good_move-returns-clause-near g t c in
    let before = Stays-trans c.captures_of-captures.ensures.stays
    (Stays-trans c.some_capture_or_liberty-close.ensures.stays c.pass_saves.ensures.stays) in
    let a3 = agrees_before c.some_later-later.ensures.stays.grows a in
    AddsNear-trans (saved_near g t d.After-pass_saves (close_near g t d.After-some_capture_or_liberty-close)
    pos a3 q root tree und)
    ((rw before.moves at (c.some_later-later.ensures.near pos a q root))
    (left_nodes c.pass_saves.result (left_nodes c.some_capture_or_liberty-close.result tree c.without-missing.ensures)
    c.without-lost.ensures) und)

-- in the stated tree a target that is taken is captured
pub taken-returns-then-not-is_wider-clause-over : goal.taken-returns-then-not-is_wider-clause-over
taken-returns-then-not-is_wider-clause-over g t c = λ pos a.
    let here = after pos c.args.board.now.moves in
    IsFiltered-taken c.args.plies c.args.turn here c.args.asked (c.requires.captured pos a)
    (lost_stated (under c.args.turn neither_may) here (sym c.is_wider.ensures ∙ c.if-not-is_wider.true))

-- nothing is looked at
pub taken-returns-then-not-is_wider-clause-near : goal.taken-returns-then-not-is_wider-clause-near
taken-returns-then-not-is_wider-clause-near g t c = λ pos a q root tree. nothing_near _ _

-- at the attacker's turn it is captured
pub taken-returns-then-turn-clause-over : goal.taken-returns-then-turn-clause-over
taken-returns-then-turn-clause-over g t c = λ pos a.
    let here = after pos c.args.board.now.moves in
    IsFiltered-taken c.args.plies c.args.turn here c.args.asked (c.requires.captured pos a)
    (lost_by_attacker (under c.args.turn neither_may) here c.if-turn.true)

-- nothing is looked at either
pub taken-returns-then-turn-clause-near : goal.taken-returns-then-turn-clause-near
taken-returns-then-turn-clause-near g t c = λ pos a q root tree. nothing_near _ _

-- what tells whether the target's point is walled in, on the board of the position
walled_is : (g : Over) (t : ℕ) (c : taken-After-is_walled_in g t) → OnEachAgreeing g.L.Look.seen c.args.board.now
    c.is_walled_in.new.board (λ here. c.is_walled_in.result
    ≡ is_walled_in here.size here.cells c.args.turn.target (other c.args.turn.defender))
walled_is g t c = λ pos a.
    let here = after pos c.args.board.now.moves in
    c.is_walled_in.ensures.over pos a ∙ ap (λ m. is_walled_in m here.cells c.args.turn.target
    (other c.args.turn.defender)) (sym (size-after pos c.args.board.now.moves))

-- the looks beside the target's point lie in the active area
walled_near : (g : Over) (t : ℕ) (c : taken-After-is_walled_in g t) → LooksNearOrAt g.L.Look.seen c.args.board.now
    c.is_walled_in.new.board c.args.plies c.args.turn c.args.asked
walled_near g t c = λ pos a q root tree.
    let a0 = agrees_before c.is_walled_in.ensures.stays.grows a in
    let here = after pos c.args.board.now.moves in
    let node = lost_node _ (g.met.L.Look.sized c.args.board.now.look) a0 c.args.board.now.moves c.requires.target
    c.requires.some tree (lost_stones (under c.args.turn neither_may) here
    (sym c.is_wider.ensures ∙ c.if-not-is_wider.false) c.if-turn.false (c.requires.captured pos a0)) in
    near_at c.args.turn.target (InActiveArea q root) (near_loss_sides node (c.is_walled_in.ensures.near pos a))

-- a target that was no lone stone is captured
pub taken-returns-then-not-is_walled_in-clause-over : goal.taken-returns-then-not-is_walled_in-clause-over
taken-returns-then-not-is_walled_in-clause-over g t c = λ pos a.
    let d = (goal.at.taken-returns-then-not-is_walled_in-clause-over g t c).After-is_walled_in in
    let here = after pos c.args.board.now.moves in
    IsFiltered-taken c.args.plies c.args.turn here c.args.asked
    (c.requires.captured pos (agrees_before c.is_walled_in.ensures.stays.grows a))
    (lost_free (under c.args.turn neither_may) here
    (sym (walled_is g t d pos a) ∙ c.if-not-is_walled_in.true))

-- the looks beside it lie in the active area
pub taken-returns-then-not-is_walled_in-clause-near : goal.taken-returns-then-not-is_walled_in-clause-near
taken-returns-then-not-is_walled_in-clause-near g t c =
    walled_near g t (goal.at.taken-returns-then-not-is_walled_in-clause-near g t c).After-is_walled_in

-- the table stays true
pub taken-returns-then-not-is_walled_in-clause-table : goal.taken-returns-then-not-is_walled_in-clause-table
taken-returns-then-not-is_walled_in-clause-table g t c = table_more c.requires.table c.is_walled_in.ensures.stays.grows

-- a lone stone was lost
lone_lost : (g : Over) (t : ℕ) (c : taken-After-is_walled_in g t) → c.is_walled_in.result ≡ true
    → OnEachAgreeing g.L.Look.seen c.args.board.now c.is_walled_in.new.board (λ here.
    (is_captured here c.args.turn.target ≡ true) × (has_lost_one_stone (under c.args.turn neither_may) here ≡ true))
lone_lost g t c held = λ pos a.
    let here = after pos c.args.board.now.moves in
    let captured = c.requires.captured pos (agrees_before c.is_walled_in.ensures.stays.grows a) in (
      captured,
      lost_lone (under c.args.turn neither_may) here (sym c.is_wider.ensures ∙ c.if-not-is_wider.false)
          c.if-turn.false captured (sym (walled_is g t c pos a) ∙ held),
    )

-- with no ply left it is captured where it cannot be taken back
pub taken-returns-then-plies-eq0-clause-over : goal.taken-returns-then-plies-eq0-clause-over
taken-returns-then-plies-eq0-clause-over g t c = λ pos a.
    let d = (goal.at.taken-returns-then-plies-eq0-clause-over g t c).After-is_walled_in in
    let a1 = agrees_before c.may_take_back-back.ensures.stays.grows a in
    let here = after pos c.args.board.now.moves in
    let w = lone_lost g t d c.if-not-is_walled_in.false pos a1 in
    let told = (rw c.is_walled_in.ensures.stays.moves at (c.may_take_back-back.ensures.over pos a))
    (c.requires.sound pos (agrees_before c.is_walled_in.ensures.stays.grows a1)) w.0
    (sym (c.is_walled_in.ensures.over pos a1) ∙ c.if-not-is_walled_in.false) in
    rw c.without.ensures (IsFiltered-lost told
    (λ ko. lone_left (under c.args.turn ko) here w.0 w.1 c.args.plies c.if-plies-eq0.true))

-- the looks of the play that takes it back lie in the active area
pub taken-returns-then-plies-eq0-clause-near : goal.taken-returns-then-plies-eq0-clause-near
taken-returns-then-plies-eq0-clause-near g t c = λ pos a q root tree.
    let d = (goal.at.taken-returns-then-plies-eq0-clause-near g t c).After-is_walled_in in
    let a1 = agrees_before c.may_take_back-back.ensures.stays.grows a in
    let a0 = agrees_before c.is_walled_in.ensures.stays.grows a1 in
    let here = after pos c.args.board.now.moves in
    let node = lost_node _ (g.met.L.Look.sized c.args.board.now.look) a0 c.args.board.now.moves c.requires.target
    c.requires.some tree (lost_stones (under c.args.turn neither_may) here
    (sym c.is_wider.ensures ∙ c.if-not-is_wider.false) c.if-turn.false (c.requires.captured pos a0)) in
    AddsNear-trans (walled_near g t d pos a1 q root tree) (near_at c.args.turn.target (InActiveArea q root)
    (near_loss node (rw c.is_walled_in.ensures.stays.moves at (c.may_take_back-back.ensures.near pos a))))

-- the table stays true here too
pub taken-returns-then-plies-eq0-clause-table : goal.taken-returns-then-plies-eq0-clause-table
taken-returns-then-plies-eq0-clause-table g t c = table_more c.requires.table
    (Grows-trans c.is_walled_in.ensures.stays.grows c.may_take_back-back.ensures.stays.grows)

-- the play that takes back may be read
pub taken-succeeds-back-requires : goal.taken-succeeds-back-requires
taken-succeeds-back-requires g t c κs within =
    let stays = c.is_walled_in.ensures.stays in
    let target = point_after stays c.args.turn.target c.requires.target in
    let more = c.requires.room in
    let some = c.if-plies-eq0.false in
    let room : length c.is_walled_in.new.board.moves + (c.args.plies - 1) < most_moves =
    rw stays.moves (omega (arith, more, some)) in
    let ready : IsReady g.L.Look.shows g.L.Look.seen c.is_walled_in.new.board c.args.turn (c.args.plies - 1)
    c.args.asked c.new-nothing.result c.args.memory.now.table.now = record {
      room = room;
      target = target;
      some = c.requires.some;
      liberties = λ pos a. rw stays.moves (no_liberties pos.size (after pos c.args.board.now.moves).cells
          c.args.turn.target c.new-nothing.result c.new-nothing.ensures
          (same_cell-true _ _ (c.requires.captured pos (agrees_before stays.grows a))));
      table = table_more c.requires.table stays.grows;
    } in
    search rules

-- it is captured where the play that takes it back does not succeed
pub taken-returns-clause-over : goal.taken-returns-clause-over
taken-returns-clause-over g t c = λ pos a.
    let d = (goal.at.taken-returns-clause-over g t c).After-is_walled_in in
    let here = after pos c.args.board.now.moves in
    let w = lone_lost g t d c.if-not-is_walled_in.false pos
    (agrees_before c.succeeds-back.ensures.stays.grows a) in
    rw c.without-2.ensures (IsFiltered-lost
    (rw c.is_walled_in.ensures.stays.moves at (c.succeeds-back.ensures.over pos a))
    (λ ko. lone_read (under c.args.turn ko) here w.0 w.1 c.args.plies c.if-plies-eq0.false c.if-turn.false))

-- the looks at the node after it lie in the active area
pub taken-returns-clause-near : goal.taken-returns-clause-near
taken-returns-clause-near g t c = λ pos a q root tree.
    let d = (goal.at.taken-returns-clause-near g t c).After-is_walled_in in
    let a1 = agrees_before c.succeeds-back.ensures.stays.grows a in
    let w = lone_lost g t d c.if-not-is_walled_in.false pos a1 in
    let nodes : AreNodesOf q root (suc (c.args.plies - 1)) c.args.turn c.args.asked (after pos c.args.board.now.moves) =
    record { each = λ ko h. pred_tree c.args.plies c.if-plies-eq0.false (tree.each ko h) } in
    AddsNear-trans (walled_near g t d pos a1 q root tree) (near_at c.args.turn.target (InActiveArea q root)
    ((rw c.is_walled_in.ensures.stays.moves at (c.succeeds-back.ensures.back refl pos a q root)) nodes w.1))

-- a target that is taken may be taken back: it is on the board, its point is empty, and the table is true
pub attacker_wins-taken-requires : goal.attacker_wins-taken-requires
attacker_wins-taken-requires g t c κs within =
    let stays = c.cell.ensures.stays in
    let target = point_after stays c.args.turn.target c.requires.target in
    let table = table_more c.requires.table stays.grows in
    let captured : (pos : BoardState) → Agrees (g.L.Look.seen c.cell.new.self.look) pos
    → is_captured (after pos c.cell.new.self.moves) c.args.turn.target ≡ true =
    λ pos a. rw stays.moves (rw (c.cell.ensures.over pos a) at
    (sym (eq_is_same_cell c.cell.result Empty) ∙ sym c.eq.ensures ∙ c.if-eq.true)) in
    let sound : (pos : BoardState) → Agrees (g.L.Look.seen c.cell.new.self.look) pos
    → IsPosition (after pos c.cell.new.self.moves) = λ pos a. rw stays.moves (c.cell.ensures.sound pos a) in
    search rules

-- so it is captured or not
pub attacker_wins-returns-then-eq-clause-over : goal.attacker_wins-returns-then-eq-clause-over
attacker_wins-returns-then-eq-clause-over g t c = λ pos a.
    rw c.cell.ensures.stays.moves at (c.taken.ensures.over pos a)

-- the look at the target, and those of the play that takes it back
pub attacker_wins-returns-then-eq-clause-near : goal.attacker_wins-returns-then-eq-clause-near
attacker_wins-returns-then-eq-clause-near g t c = λ pos a q root tree.
    AddsNear-trans (near_cell c.args.turn.target (InActiveArea q root) c.cell.ensures.near)
    ((rw c.cell.ensures.stays.moves at (c.taken.ensures.near pos a q root)) tree)

-- it stands, and no ply is left
pub attacker_wins-returns-then-plies-eq0-clause-over : goal.attacker_wins-returns-then-plies-eq0-clause-over
attacker_wins-returns-then-plies-eq0-clause-over g t c = λ pos a.
    let cell = c.cell.ensures.over pos a in
    let stands = sym (eq_is_same_cell c.cell.result Empty) ∙ sym c.eq.ensures ∙ c.if-eq.false in
    rw c.none.ensures (IsFiltered-none c.args.asked _
    (λ ko. wins-no_plies c.args.plies (under c.args.turn ko) (after pos c.args.board.now.moves)
    (rw cell at stands) c.if-plies-eq0.true))

-- it has too many liberties
pub attacker_wins-returns-in-Safe-clause-over : goal.attacker_wins-returns-in-Safe-clause-over
attacker_wins-returns-in-Safe-clause-over g t c = λ pos a.
    let before = Stays-trans c.cell.ensures.stays c.liberties_known-known.ensures.stays in
    let a0 = agrees_before (Stays-trans before c.outlook_of.ensures.stays).grows a in
    let inside = target_on pos.size (g.L.Look.shows c.args.board.now.look).size c.args.turn.target
    (same_size (g.met.L.Look.sized c.args.board.now.look) a0) c.requires.target in
    let many = (rw (before.moves, c.in-Safe.is) at c.outlook_of.ensures.over) pos a in
    rw c.none-in-Safe.ensures (IsFiltered-none c.args.asked _
    (bounded_at c.args.plies c.args.turn (after pos c.args.board.now.moves) pos.size
    (size-after pos c.args.board.now.moves) inside many))

-- the target stands where the outlook is told
outlook_stands : (g : Over) (t : ℕ) (c : attacker_wins-After-outlook_of g t)
    → OnEachAgreeing g.L.Look.seen c.args.board.now c.outlook_of.new.board (λ here.
    is_captured here c.args.turn.target ≡ false)
outlook_stands g t c = λ pos a.
    let looks = Stays-trans c.liberties_known-known.ensures.stays c.outlook_of.ensures.stays in
    rw (c.cell.ensures.over pos (agrees_before looks.grows a)) at
    (sym (eq_is_same_cell c.cell.result Empty) ∙ sym c.eq.ensures ∙ c.if-eq.false)

-- the looks that tell the outlook lie in the active area
outlook_near : (g : Over) (t : ℕ) (c : attacker_wins-After-outlook_of g t) → LooksNearOrAt g.L.Look.seen
    c.args.board.now c.outlook_of.new.board c.args.plies c.args.turn c.args.asked
outlook_near g t c = λ pos a q root tree.
    let before = Stays-trans c.cell.ensures.stays c.liberties_known-known.ensures.stays in
    let a1 = agrees_before c.outlook_of.ensures.stays.grows a in
    let a0 = agrees_before before.grows a1 in
    let node = standing_node _ (g.met.L.Look.sized c.args.board.now.look) a0 c.args.board.now.moves c.requires.target
    c.requires.some tree (outlook_stands g t c pos a) in
    near_at c.args.turn.target (InActiveArea q root) (near_outlook node c.cell.ensures.near
    ((rw c.cell.ensures.stays.moves at c.liberties_known-known.ensures.near) pos a1)
    ((rw before.moves at c.outlook_of.ensures.near) pos a))

-- and its node is undecided where it is not safe
outlook_undecided : (g : Over) (t : ℕ) (c : attacker_wins-After-outlook_of g t) → is_safe c.outlook_of.result ≡ false
    → OnEachAgreeing g.L.Look.seen c.args.board.now c.outlook_of.new.board (λ here. (ko : Ko)
    → IsUndecided (under c.args.turn ko) here)
outlook_undecided g t c told = λ pos a.
    let before = Stays-trans c.cell.ensures.stays c.liberties_known-known.ensures.stays in
    undecided_at c.args.plies c.args.turn (after pos c.args.board.now.moves) pos.size
    (size-after pos c.args.board.now.moves) (outlook_stands g t c pos a)
    ((rw before.moves at c.outlook_of.ensures.over) pos a ∙ told)

-- it is taken by its only liberty
pub attacker_wins-returns-in-Taken-clause-over : goal.attacker_wins-returns-in-Taken-clause-over
attacker_wins-returns-in-Taken-clause-over g t c = λ pos a.
    let d = (goal.at.attacker_wins-returns-in-Taken-clause-over g t c).After-outlook_of in
    let here = after pos c.args.board.now.moves in
    let before = Stays-trans c.cell.ensures.stays c.liberties_known-known.ensures.stays in
    let a0 = agrees_before (Stays-trans before c.outlook_of.ensures.stays).grows a in
    let inside = on_after _ (g.met.L.Look.sized c.args.board.now.look) a0 c.args.board.now.moves c.requires.target in
    let taken = (rw before.moves at c.outlook_of.ensures.taken) pos a c.in-Taken.is in
    let und = outlook_undecided g t d (ap is_safe c.in-Taken.is) pos a in
    let more : c.args.plies ≡ suc (c.args.plies - 1) = omega (arith, c.if-plies-eq0.false) in
    IsFiltered-all c.args.asked _ (λ ko. ap (λ m. attacker_wins m (under c.args.turn ko) here) more
    ∙ take_wins (c.args.plies - 1) c.args.turn here (whole_after pos c.args.board.now.moves a.sound.cells) inside
    ((und ko).few taken.attacks) taken ko)

-- the looks at the target and its liberties
pub attacker_wins-returns-in-Safe-clause-near : goal.attacker_wins-returns-in-Safe-clause-near
attacker_wins-returns-in-Safe-clause-near g t c =
    outlook_near g t (goal.at.attacker_wins-returns-in-Safe-clause-near g t c).After-outlook_of

-- the looks at the target and its only liberty lie at the target or in the area
pub attacker_wins-returns-in-Taken-clause-near : goal.attacker_wins-returns-in-Taken-clause-near
attacker_wins-returns-in-Taken-clause-near g t c =
    outlook_near g t (goal.at.attacker_wins-returns-in-Taken-clause-near g t c).After-outlook_of

-- the side to play has a good move or not
pub attacker_wins-returns-in-Open-clause-over : goal.attacker_wins-returns-in-Open-clause-over
attacker_wins-returns-in-Open-clause-over g t c = λ pos a.
    let d = (goal.at.attacker_wins-returns-in-Open-clause-over g t c).After-outlook_of in
    let here = after pos c.args.board.now.moves in
    let before = Stays-trans c.cell.ensures.stays c.liberties_known-known.ensures.stays in
    let a1 = agrees_before c.has_good_move-good.ensures.stays.grows a in
    rw c.attackers.ensures (IsFiltered-attackers c.args.turn.attacker_to_play c.args.asked c.has_good_move-good.result
    (λ ko. is_some (good_move (c.args.plies - 1) (under c.args.turn ko) here))
    (λ ko. attacker_wins c.args.plies (under c.args.turn ko) here)
    ((rw (Stays-trans before c.outlook_of.ensures.stays).moves at (c.has_good_move-good.ensures.over pos a))
    (outlook_undecided g t d (ap is_safe c.in-Open.is) pos a1)) (λ ko. wins-by_move c.args.plies (under c.args.turn ko)
    here _ (outlook_stands g t d pos a1) c.if-plies-eq0.false refl))

-- the looks at the target, and the rest in the area
pub attacker_wins-returns-in-Open-clause-near : goal.attacker_wins-returns-in-Open-clause-near
attacker_wins-returns-in-Open-clause-near g t c = λ pos a q root tree.
    let d = (goal.at.attacker_wins-returns-in-Open-clause-near g t c).After-outlook_of in
    let before = Stays-trans c.cell.ensures.stays c.liberties_known-known.ensures.stays in
    let a1 = agrees_before c.has_good_move-good.ensures.stays.grows a in
    let nodes : AreNodesOf q root (suc (c.args.plies - 1)) c.args.turn c.args.asked (after pos c.args.board.now.moves) =
    record { each = λ ko h. pred_tree c.args.plies c.if-plies-eq0.false (tree.each ko h) } in
    AddsNear-trans (outlook_near g t d pos a1 q root tree)
    (near_at c.args.turn.target (InActiveArea q root)
    ((rw (Stays-trans before c.outlook_of.ensures.stays).moves at (c.has_good_move-good.ensures.near pos a q root))
    nodes (outlook_undecided g t d (ap is_safe c.in-Open.is) pos a1)))

-- What the table tells stays true while more is seen: after a play that is not made,
pub succeeds-returns-in-Not-clause-table : goal.succeeds-returns-in-Not-clause-table
succeeds-returns-in-Not-clause-table g t c = table_more c.requires.ready.table c.make.ensures.grows

-- after the choice of a point where none is left,
pub some_of-returns-clause-table : goal.some_of-returns-clause-table
some_of-returns-clause-table g t c = table_more c.loop-p.invariant.table c.next_to_try.ensures.stays.grows

-- after the look for an atari,
pub some_later-returns-then-is_in_atari-clause-table : goal.some_later-returns-then-is_in_atari-clause-table
some_later-returns-then-is_in_atari-clause-table g t c =
    table_more c.requires.ready.table c.is_in_atari.ensures.stays.grows

-- also before the pass,
pub pass_saves-returns-then-is_in_atari-clause-table : goal.pass_saves-returns-then-is_in_atari-clause-table
pass_saves-returns-then-is_in_atari-clause-table g t c =
    table_more c.requires.ready.table c.is_in_atari.ensures.stays.grows

-- after the looks for an escape,
pub has_good_move-returns-then-escapes-clause-table : goal.has_good_move-returns-then-escapes-clause-table
has_good_move-returns-then-escapes-clause-table g t c = table_more c.requires.table c.escapes.ensures.stays.grows

-- also before the defender's moves are tried,
pub has_good_move-defender_has_good_move-requires : goal.has_good_move-defender_has_good_move-requires
has_good_move-defender_has_good_move-requires g t c κs within =
    let stays = c.escapes.ensures.stays in
    let ready = ready_after stays c.args.asked c.requires c.requires.some (table_more c.requires.table stays.grows) in
    search rules

-- and after the looks at the target: where no ply is left,
pub attacker_wins-returns-then-plies-eq0-clause-table : goal.attacker_wins-returns-then-plies-eq0-clause-table
attacker_wins-returns-then-plies-eq0-clause-table g t c = table_more c.requires.table c.cell.ensures.stays.grows

-- where it has too many liberties,
pub attacker_wins-returns-in-Safe-clause-table : goal.attacker_wins-returns-in-Safe-clause-table
attacker_wins-returns-in-Safe-clause-table g t c =
    table_more c.requires.table (Grows-trans c.cell.ensures.stays.grows
    (Grows-trans c.liberties_known-known.ensures.stays.grows c.outlook_of.ensures.stays.grows))

-- where it is taken,
pub attacker_wins-returns-in-Taken-clause-table : goal.attacker_wins-returns-in-Taken-clause-table
attacker_wins-returns-in-Taken-clause-table g t c =
    table_more c.requires.table (Grows-trans c.cell.ensures.stays.grows
    (Grows-trans c.liberties_known-known.ensures.stays.grows c.outlook_of.ensures.stays.grows))

-- and where its node is to be read
pub attacker_wins-has_good_move-good-requires : goal.attacker_wins-has_good_move-good-requires
attacker_wins-has_good_move-good-requires g t c κs within =
    let stays = Stays-trans c.cell.ensures.stays
    (Stays-trans c.liberties_known-known.ensures.stays c.outlook_of.ensures.stays) in
    let table = table_more c.requires.table stays.grows in
    let target = point_after stays c.args.turn.target c.requires.target in
    let liberties : AreLibertiesOf g.L.Look.seen c.outlook_of.new.board c.args.turn.target
    c.liberties_known-known.result =
    λ pos a. rw c.outlook_of.ensures.stays.moves (c.outlook_of.ensures.all pos a (ap is_safe c.in-Open.is)) in
    search rules

-- what the table knows is told
pub some_by_table-returns-then-not-has_some-clause-over : goal.some_by_table-returns-then-not-has_some-clause-over
some_by_table-returns-then-not-has_some-clause-over g t c = λ pos a.
    let turn = c.args.turn in
    let seen = g.L.Look.seen c.args.board.now.look in
    told_before turn (record { changes = c.in-Some.changes; plies = c.args.plies; wide = turn.wide })
    c.find-before.result c.args.asked c.without-missing.result c.both.result pos (after pos c.args.board.now.moves)
    (c.find-before.ensures seen turn.tree turn.target turn.defender c.requires.ready.table) a c.requires.attacker refl
    (c.in-Some.ensures.over pos a) c.without-missing.ensures (sym c.has_some.ensures ∙ c.if-not-has_some.true)
    c.both.ensures

-- what was found of the rest makes the verdict true of the node
verdict_true : (g : Over) (t : ℕ) (c : some_by_table-After-with-verdict g t) → let turn = c.args.turn in
    IsTrueOf (g.L.Look.seen c.some_success-good.new.board.look) turn.tree turn.target turn.defender
    (record { changes = c.in-Some.changes; plies = c.args.plies; wide = turn.wide }) c.with-verdict.result
verdict_true g t c =
    let turn = c.args.turn in
    let found = c.some_success-good.ensures in
    read_true turn (record { changes = c.in-Some.changes; plies = c.args.plies; wide = turn.wide }) c.find-before.result
    c.with-verdict.result c.args.asked c.without-missing.result c.some_success-good.result c.args.board.now.moves
    (c.find-before.ensures (g.L.Look.seen c.args.board.now.look) turn.tree turn.target turn.defender
    c.requires.ready.table) found.stays.grows c.requires.attacker refl c.in-Some.ensures.over found.over
    c.without-missing.ensures c.with-verdict.ensures

-- so it is remembered
pub some_by_table-returns-clause-table : goal.some_by_table-returns-clause-table
some_by_table-returns-clause-table g t c =
    let d = (goal.at.some_by_table-returns-clause-table g t c).After-with-verdict in
    let turn = c.args.turn in
    c.keep.ensures (g.L.Look.seen c.some_success-good.new.board.look) turn.tree turn.target turn.defender
    c.some_success-good.ensures.table (verdict_true g t d)

-- and told with what was known
pub some_by_table-returns-clause-over : goal.some_by_table-returns-clause-over
some_by_table-returns-clause-over g t c = λ pos a.
    let d = (goal.at.some_by_table-returns-clause-over g t c).After-with-verdict in
    let turn = c.args.turn in
    told_after turn (record { changes = c.in-Some.changes; plies = c.args.plies; wide = turn.wide })
    c.find-before.result c.with-verdict.result c.args.asked c.without-missing.result c.some_success-good.result
    c.both-2.result pos (after pos c.args.board.now.moves) (verdict_true g t d) a c.requires.attacker refl
    (c.in-Some.ensures.over pos (agrees_before c.some_success-good.ensures.stays.grows a)) c.without-missing.ensures
    c.with-verdict.ensures c.both-2.ensures

-- the rest is read in the active area
pub some_by_table-returns-clause-near : goal.some_by_table-returns-clause-near
some_by_table-returns-clause-near g t c = λ pos a q root tree und.
    c.some_success-good.ensures.near pos a q root
    (left_nodes c.find-before.result.known tree c.without-missing.ensures) und
