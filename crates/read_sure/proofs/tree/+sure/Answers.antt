-- The walk over the moves of a node answers what the definition says, over every position that agrees with what was
-- seen.
use Rattle.std.proofs.Common.{◌≡◌, ◌∙◌, ◌+◌, ◌-◌, ◌<◌, true, not, length, ap, sym, subst, arith, is_some, rules}
use Rattle.std.specs.FinSet as set
use Rattle.go_base.specs.Facts.{Agrees, agrees_before, Grows-refl, Grows-trans}
use Rattle.go_rules.specs.declared.Cell.TheVariants.{Empty}
use Rattle.go_rules.specs.Position.{BoardState, IsPosition, other}
use Rattle.go_rules.proofs.Cells.{eq_is_same_cell}
use Rattle.trial_board.specs.Trials.{after, most_moves, Stays-trans}
use Rattle.trial_board.proofs.AfterLemmas.{size-after}
use Rattle.read_rules.specs.GameTree.{is_walled_in}
use Rattle.read_rules.proofs.WinLemmas.{none_up_to}
use Rattle.read_tree.proofs.ReadyLemmas.{point_after}
use Rattle.sure_rules.specs.Nodes.{is_gone}
use Rattle.sure_rules.specs.SureAnswer.{surely_succeeds}
use Rattle.sure_rules.proofs.SureLemmas.{sure-no_plies}
use Rattle.sure_rules.proofs.SureMoves.{sure-by_move, first_sure-found, first_sure-none}
use Rattle.read_sure.proofs.SureSteps.{play_made, play_refused, no_pass, pass_made, first_pass, first_point}
use Rattle.read_sure.proofs.SureSteps.{move_barred, move_first}
use Rattle.read_sure.proofs.LossLemmas.{sure_for_good, lone_walled, sure_left, sure_read}
use Rattle.read_sure.proofs.tree.+sure.Goals as goal

-- the play is made
pub succeeds-returns-in-Some-clause-over : goal.succeeds-returns-in-Some-clause-over
succeeds-returns-in-Some-clause-over g t c = λ pos a.
    let a1 = agrees_before c.surely_wins-won.ensures.stays.grows (rw c.back.ensures.moves at a) in
    play_made c.args.plies c.args.node (after pos c.args.board.now.moves) c.args.p c.in-Some.next
    (after pos c.make_at.new.board.moves) c.make_at.result c.surely_wins-won.result (c.make_at.ensures.over pos a1)
    c.in-Some.is (c.surely_wins-won.ensures.over pos (rw c.back.ensures.moves at a))

-- it is not
pub succeeds-returns-in-None-clause-over : goal.succeeds-returns-in-None-clause-over
succeeds-returns-in-None-clause-over g t c = λ pos a.
    play_refused c.args.plies c.args.node (after pos c.args.board.now.moves) c.args.p
    (after pos c.make_at.new.board.moves) c.make_at.result (c.make_at.ensures.over pos a) c.in-None.is

-- the attacker does not pass
pub pass_holds-returns-then-node-clause-over : goal.pass_holds-returns-then-node-clause-over
pass_holds-returns-then-node-clause-over g t c = λ pos a.
    no_pass c.args.plies c.args.node (after pos c.args.board.now.moves) c.if-node.true

-- the defender passes
pub pass_holds-returns-clause-over : goal.pass_holds-returns-clause-over
pass_holds-returns-clause-over g t c = λ pos a.
    pass_made c.args.plies c.args.node (after pos c.args.board.now.moves) c.surely_wins-won.result c.if-node.false
    (rw (c.pass.ensures, c.next.ensures, c.allowance.ensures) at
    (c.surely_wins-won.ensures.over pos (rw c.back.ensures.moves at a)))

-- no point was tried yet
pub first_sure-plays-init : goal.first_sure-plays-init
first_sure-plays-init g t c = record {
  stays = c.tried_points-tried.ensures.stays;
  grows = Grows-refl _;
  none = λ pos a q below. absurd (omega (arith, below));
}

-- the next point and the target are on the board
pub first_sure-succeeds-requires : goal.first_sure-succeeds-requires
first_sure-succeeds-requires g t c κs within =
    let i = c.plays.invariant in
    let on = point_after i.stays c.in-Some.p
    (c.tried_points-tried.ensures.on_board c.in-Some.p c.in-Some.ensures.some.2) in
    let target = point_after i.stays c.args.node.turn.target c.requires.target in
    search rules

-- it does not succeed, and none before it did
pub first_sure-plays-preserved : goal.first_sure-plays-preserved
first_sure-plays-preserved g t c =
    let i = c.plays.invariant in
    let later = c.succeeds.ensures.stays in
    let found = c.in-Some.ensures.some in
    record {
      stays = Stays-trans i.stays later;
      grows = Grows-trans i.grows later.grows;
      none = λ pos a. none_up_to (set.contains c.tried_points-tried.result)
          (surely_succeeds c.args.plies c.args.node (after pos c.args.board.now.moves)) c.plays.from c.in-Some.p
          (i.none pos (agrees_before later.grows a)) found.3 found.2
          (sym (rw i.stays.moves at (c.succeeds.ensures.over pos a)) ∙ c.if-succeeds.false);
    }

-- it is the first that succeeds
pub first_sure-returns-then-succeeds-clause-over : goal.first_sure-returns-then-succeeds-clause-over
first_sure-returns-then-succeeds-clause-over g t c = λ pos a.
    let i = c.plays.invariant in
    let found = c.in-Some.ensures.some in
    let a1 = agrees_before c.succeeds.ensures.stays.grows a in
    let yes = rw i.stays.moves at (c.succeeds.ensures.over pos a) in
    first_sure-found c.args.plies c.args.node (after pos c.args.board.now.moves) c.plays.from c.in-Some.p
    (set.contains c.tried_points-tried.result)
    (c.tried_points-tried.ensures.over pos (agrees_before i.grows a1)) (i.none pos a1) found.3 found.2
    (sym c.if-succeeds.true ∙ yes)

-- it is on the board
pub first_sure-returns-then-succeeds-clause-on_board : goal.first_sure-returns-then-succeeds-clause-on_board
first_sure-returns-then-succeeds-clause-on_board g t c =
    c.tried_points-tried.ensures.on_board c.in-Some.p c.in-Some.ensures.some.2

-- none succeeds
pub first_sure-returns-clause-over : goal.first_sure-returns-clause-over
first_sure-returns-clause-over g t c = λ pos a.
    let i = c.plays.invariant in
    first_sure-none c.args.plies c.args.node (after pos c.args.board.now.moves) c.plays.from
    (set.contains c.tried_points-tried.result)
    (c.tried_points-tried.ensures.over pos (agrees_before i.grows a)) (i.none pos a) c.in_default.ensures.none

-- the pass holds
pub first_sure_move-returns-then-pass_holds-clause-over : goal.first_sure_move-returns-then-pass_holds-clause-over
first_sure_move-returns-then-pass_holds-clause-over g t c = λ pos a.
    first_pass c.args.plies c.args.node (after pos c.args.board.now.moves)
    (sym c.if-pass_holds.true ∙ c.pass_holds.ensures.over pos a)

-- a point is the first move
pub first_sure_move-returns-in-Some-clause-over : goal.first_sure_move-returns-in-Some-clause-over
first_sure_move-returns-in-Some-clause-over g t c = λ pos a.
    let a1 = agrees_before c.first_sure.ensures.stays.grows a in
    let point = rw (c.pass_holds.ensures.stays.moves, c.in-Some.is) at (c.first_sure.ensures.over pos a) in
    first_point c.args.plies c.args.node (after pos c.args.board.now.moves) _
    (sym c.if-pass_holds.false ∙ c.pass_holds.ensures.over pos a1) point

-- none is
pub first_sure_move-returns-in-None-clause-over : goal.first_sure_move-returns-in-None-clause-over
first_sure_move-returns-in-None-clause-over g t c = λ pos a.
    let a1 = agrees_before c.first_sure.ensures.stays.grows a in
    let point = rw (c.pass_holds.ensures.stays.moves, c.in-None.is) at (c.first_sure.ensures.over pos a) in
    first_point c.args.plies c.args.node (after pos c.args.board.now.moves) _
    (sym c.if-pass_holds.false ∙ c.pass_holds.ensures.over pos a1) point

-- the attacker may not play
pub sure_move-returns-then-is_barred-clause-over : goal.sure_move-returns-then-is_barred-clause-over
sure_move-returns-then-is_barred-clause-over g t c = λ pos a.
    move_barred c.args.plies c.args.node (after pos c.args.board.now.moves)
    (sym c.if-is_barred.true ∙ c.is_barred.ensures.over pos a)

-- the first move is the side's
pub sure_move-returns-clause-over : goal.sure_move-returns-clause-over
sure_move-returns-clause-over g t c = λ pos a.
    let a1 = agrees_before c.first_sure_move.ensures.stays.grows a in
    let first = rw c.is_barred.ensures.stays.moves at (c.first_sure_move.ensures.over pos a) in
    move_first c.args.plies c.args.node (after pos c.args.board.now.moves) c.first_sure_move.result
    (sym c.if-is_barred.false ∙ c.is_barred.ensures.over pos a1) first

-- a target that was no lone stone is captured
pub taken-returns-then-not-has_lost_one_stone-clause-over : goal.taken-returns-then-not-has_lost_one_stone-clause-over
taken-returns-then-not-has_lost_one_stone-clause-over g t c = λ pos a.
    sym (sure_for_good c.args.plies c.args.node (after pos c.args.board.now.moves)
    (c.requires.gone pos (agrees_before c.has_lost_one_stone.ensures.stays.grows a))
    (sym (c.has_lost_one_stone.ensures.over pos a) ∙ c.if-not-has_lost_one_stone.true))

-- with no ply left it is captured where it cannot be taken back
pub taken-returns-then-plies-eq0-clause-over : goal.taken-returns-then-plies-eq0-clause-over
taken-returns-then-plies-eq0-clause-over g t c = λ pos a.
    let here = after pos c.args.board.now.moves in
    let node = c.args.node in
    let a1 = agrees_before c.may_take_back_at.ensures.stays.grows a in
    let a2 = agrees_before c.has_lost_one_stone.ensures.stays.grows a1 in
    let lone = sym (c.has_lost_one_stone.ensures.over pos a1) ∙ c.if-not-has_lost_one_stone.false in
    let walled = subst (λ m. is_walled_in m here.cells node.turn.target (other node.turn.defender) ≡ true)
    (size-after pos c.args.board.now.moves) (lone_walled node here lone) in
    let told = (rw c.has_lost_one_stone.ensures.stays.moves at (c.may_take_back_at.ensures.over pos a))
    (c.requires.sound pos a2) (c.requires.gone pos a2) walled in
    ap not told ∙ sym (sure_left node here lone c.args.plies c.if-plies-eq0.true)

-- the play that takes back may be read
pub taken-succeeds-requires : goal.taken-succeeds-requires
taken-succeeds-requires g t c κs within =
    let stays = c.has_lost_one_stone.ensures.stays in
    let target = point_after stays c.args.node.turn.target c.requires.target in
    let more = c.requires.room in
    let some = c.if-plies-eq0.false in
    let room : length c.has_lost_one_stone.new.board.moves + (c.args.plies - 1) < most_moves =
    rw stays.moves (omega (arith, more, some)) in
    search rules

-- it is captured where the play that takes it back does not succeed
pub taken-returns-clause-over : goal.taken-returns-clause-over
taken-returns-clause-over g t c = λ pos a.
    let here = after pos c.args.board.now.moves in
    let lone = sym (c.has_lost_one_stone.ensures.over pos (agrees_before c.succeeds.ensures.stays.grows a))
    ∙ c.if-not-has_lost_one_stone.false in
    ap not (rw c.has_lost_one_stone.ensures.stays.moves at (c.succeeds.ensures.over pos a))
    ∙ sure_read c.args.node here lone c.args.plies c.if-plies-eq0.false

-- a target that is taken may be taken back: it is on the board, and its point is empty
pub surely_wins-taken-requires : goal.surely_wins-taken-requires
surely_wins-taken-requires g t c κs within =
    let stays = c.cell.ensures.stays in
    let target = point_after stays c.args.node.turn.target c.requires.target in
    let gone : (pos : BoardState) → Agrees (g.L.Look.seen c.cell.new.self.look) pos
    → is_gone c.args.node (after pos c.cell.new.self.moves) ≡ true =
    λ pos a. rw stays.moves (rw (c.cell.ensures.over pos a) at
    (sym (eq_is_same_cell c.cell.result Empty) ∙ sym c.eq.ensures ∙ c.if-eq.true)) in
    let sound : (pos : BoardState) → Agrees (g.L.Look.seen c.cell.new.self.look) pos
    → IsPosition (after pos c.cell.new.self.moves) = λ pos a. rw stays.moves (c.cell.ensures.sound pos a) in
    search rules

-- so it is surely captured or not
pub surely_wins-returns-then-eq-clause-over : goal.surely_wins-returns-then-eq-clause-over
surely_wins-returns-then-eq-clause-over g t c = λ pos a.
    rw c.cell.ensures.stays.moves at (c.taken.ensures.over pos a)

-- no ply is left
pub surely_wins-returns-then-plies-eq0-clause-over : goal.surely_wins-returns-then-plies-eq0-clause-over
surely_wins-returns-then-plies-eq0-clause-over g t c = λ pos a.
    let cell = c.cell.ensures.over pos a in
    let stands = sym (eq_is_same_cell c.cell.result Empty) ∙ sym c.eq.ensures ∙ c.if-eq.false in
    sym (sure-no_plies c.args.plies c.args.node (after pos c.args.board.now.moves) (rw cell at stands)
    c.if-plies-eq0.true)

-- the side to play has a move that succeeds or none
pub surely_wins-returns-clause-over : goal.surely_wins-returns-clause-over
surely_wins-returns-clause-over g t c = λ pos a.
    let cell = c.cell.ensures.over pos (agrees_before c.sure_move.ensures.stays.grows a) in
    let stands = sym (eq_is_same_cell c.cell.result Empty) ∙ sym c.eq.ensures ∙ c.if-eq.false in
    sure-by_move c.args.plies c.args.node (after pos c.args.board.now.moves) _ (rw cell at stands) c.if-plies-eq0.false
    (rw c.cell.ensures.stays.moves at (c.is_some.ensures ∙ ap is_some (c.sure_move.ensures.over pos a)))
