-- The walk over the moves of a node answers what the tree says, over every position that agrees with what was seen.
use Rattle.std.proofs.Common.{◌≡◌, ◌∙◌, ◌+◌, ◌-◌, ◌<◌, ℕ, true, not, length, ap, sym, arith, rules}
use Rattle.go_base.specs.Facts.{Agrees}
use Rattle.go_rules.specs.Position.{BoardState, IsPosition, other}
use Rattle.trial_board.specs.Trials.{most_moves}
use Rattle.trial_board.proofs.AfterLemmas.{size-after}
use Rattle.read_rules.specs.GameTree.{is_captured, is_walled_in, has_lost_one_stone}
use Rattle.read_tree.specs.Walk.{OnEachAgreeing}
use Rattle.read_tree.proofs.TakingLemmas.{captured_for_good, lost_stated, lost_by_attacker, lost_free, lost_lone}
use Rattle.read_tree.proofs.TakingLemmas.{lone_left, lone_read}
use Rattle.read_tree.proofs.nodes.+wins.Given.{Over}
use Rattle.read_tree.proofs.nodes.+wins.Goals.{taken_at-After-is_walled_in}
use Rattle.std.specs.FinSet as set
use Rattle.go_base.specs.Facts.{agrees_before, Grows-refl, Grows-trans}
use Rattle.go_rules.specs.declared.Cell.TheVariants.{Empty}
use Rattle.go_rules.proofs.Cells.{eq_is_same_cell}
use Rattle.trial_board.specs.Trials.{after}
use Rattle.read_rules.specs.GameTree.{succeeds}
use Rattle.read_rules.proofs.WinLemmas.{wins-no_plies, wins-by_move, none_up_to, first_success-found}
use Rattle.read_rules.proofs.WinLemmas.{first_success-none}
use Rattle.read_tree.proofs.TableLemmas.{table_more}
use Rattle.read_tree.proofs.NodeLemmas.{play_made, play_refused, no_pass, pass_made, first_pass, first_point}
use Rattle.read_tree.proofs.NodeLemmas.{good_barred, good_first, same_table}
use Rattle.trial_board.specs.Trials.{Stays-trans}
use Rattle.read_tree.proofs.ReadyLemmas.{candidate_inside, point_after}
use Rattle.read_tree.proofs.nodes.+wins.Goals as goal

-- after the play there is room, and the table is true in the same reading
pub succeeds-wins_at-won-requires : goal.succeeds-wins_at-won-requires
succeeds-wins_at-won-requires g t c κs within =
    let same = c.in-Some.ensures.same in
    let table = same_table c.args.node c.in-Some.next same
    (table_more c.requires.table c.make_at.ensures.grows) in
    search rules

-- the play is made
pub succeeds-returns-in-Some-clause-over : goal.succeeds-returns-in-Some-clause-over
succeeds-returns-in-Some-clause-over g t c = λ pos a.
    let a1 = agrees_before c.wins_at-won.ensures.stays.grows (rw c.back.ensures.moves at a) in
    play_made c.args.plies c.args.node (after pos c.args.board.now.moves) c.args.p c.in-Some.next
    (after pos c.make_at.new.board.moves) c.make_at.result c.wins_at-won.result (c.make_at.ensures.over pos a1)
    c.in-Some.is (c.wins_at-won.ensures.over pos (rw c.back.ensures.moves at a))

-- it is not
pub succeeds-returns-in-None-clause-over : goal.succeeds-returns-in-None-clause-over
succeeds-returns-in-None-clause-over g t c = λ pos a.
    play_refused c.args.plies c.args.node (after pos c.args.board.now.moves) c.args.p
    (after pos c.make_at.new.board.moves) c.make_at.result (c.make_at.ensures.over pos a) c.in-None.is

-- the attacker does not pass
pub pass_saves-returns-then-node-clause-over : goal.pass_saves-returns-then-node-clause-over
pass_saves-returns-then-node-clause-over g t c = λ pos a.
    no_pass c.args.plies c.args.node (after pos c.args.board.now.moves) c.if-node.true

-- the defender passes
pub pass_saves-returns-clause-over : goal.pass_saves-returns-clause-over
pass_saves-returns-clause-over g t c = λ pos a.
    pass_made c.args.plies c.args.node (after pos c.args.board.now.moves) c.wins_at-won.result c.if-node.false
    (rw (c.pass.ensures, c.next.ensures, c.allowance.ensures) at
    (c.wins_at-won.ensures.over pos (rw c.back.ensures.moves at a)))

-- no candidate was tried yet
pub first_success-plays-init : goal.first_success-plays-init
first_success-plays-init g t c = record {
  stays = c.candidates-candidates.ensures.stays;
  grows = Grows-refl _;
  table = table_more c.requires.table c.candidates-candidates.ensures.stays.grows;
  none = λ pos a q below. absurd (omega (arith, below));
}

-- the next candidate and the target are on the board
pub first_success-succeeds-requires : goal.first_success-succeeds-requires
first_success-succeeds-requires g t c κs within =
    let i = c.plays.invariant in
    let on = point_after i.stays c.in-Some.p (candidate_inside c.args.node.turn (g.L.Look.shows c.args.board.now.look)
    c.args.board.now.moves c.in-Some.p
    (sym (c.candidates-candidates.ensures.answer c.in-Some.p) ∙ c.in-Some.ensures.some.2)) in
    let target = point_after i.stays c.args.node.turn.target c.requires.target in
    search rules

-- it does not succeed, and none before it did
pub first_success-plays-preserved : goal.first_success-plays-preserved
first_success-plays-preserved g t c =
    let i = c.plays.invariant in
    let later = c.succeeds.ensures.stays in
    let found = c.in-Some.ensures.some in
    record {
      stays = Stays-trans i.stays later;
      grows = Grows-trans i.grows later.grows;
      table = c.succeeds.ensures.table;
      none = λ pos a. none_up_to (set.contains c.candidates-candidates.result)
          (succeeds c.args.plies c.args.node (after pos c.args.board.now.moves)) c.plays.from c.in-Some.p
          (i.none pos (agrees_before later.grows a)) found.3 found.2
          (sym (rw i.stays.moves at (c.succeeds.ensures.over pos a)) ∙ c.if-succeeds.false);
    }

-- it is the first that succeeds
pub first_success-returns-then-succeeds-clause-over : goal.first_success-returns-then-succeeds-clause-over
first_success-returns-then-succeeds-clause-over g t c = λ pos a.
    let i = c.plays.invariant in
    let found = c.in-Some.ensures.some in
    let a1 = agrees_before c.succeeds.ensures.stays.grows a in
    let yes = rw i.stays.moves at (c.succeeds.ensures.over pos a) in
    first_success-found c.args.plies c.args.node (after pos c.args.board.now.moves) c.plays.from c.in-Some.p
    (set.contains c.candidates-candidates.result)
    (c.candidates-candidates.ensures.over pos (agrees_before i.grows a1)) (i.none pos a1) found.3 found.2
    (sym c.if-succeeds.true ∙ yes)

-- it is on the board
pub first_success-returns-then-succeeds-clause-on_board : goal.first_success-returns-then-succeeds-clause-on_board
first_success-returns-then-succeeds-clause-on_board g t c =
    candidate_inside c.args.node.turn (g.L.Look.shows c.args.board.now.look) c.args.board.now.moves c.in-Some.p
    (sym (c.candidates-candidates.ensures.answer c.in-Some.p)
    ∙ c.in-Some.ensures.some.2)

-- none succeeds
pub first_success-returns-clause-over : goal.first_success-returns-clause-over
first_success-returns-clause-over g t c = λ pos a.
    let i = c.plays.invariant in
    first_success-none c.args.plies c.args.node (after pos c.args.board.now.moves) c.plays.from
    (set.contains c.candidates-candidates.result)
    (c.candidates-candidates.ensures.over pos (agrees_before i.grows a)) (i.none pos a) c.in_default.ensures.none

-- the pass saves the target
pub first_move-returns-then-pass_saves-clause-over : goal.first_move-returns-then-pass_saves-clause-over
first_move-returns-then-pass_saves-clause-over g t c = λ pos a.
    first_pass c.args.plies c.args.node (after pos c.args.board.now.moves)
    (sym c.if-pass_saves.true ∙ c.pass_saves.ensures.over pos a)

-- a point is the first move
pub first_move-returns-in-Some-clause-over : goal.first_move-returns-in-Some-clause-over
first_move-returns-in-Some-clause-over g t c = λ pos a.
    let a1 = agrees_before c.first_success.ensures.stays.grows a in
    let point = rw (c.pass_saves.ensures.stays.moves, c.in-Some.is) at (c.first_success.ensures.over pos a) in
    first_point c.args.plies c.args.node (after pos c.args.board.now.moves) _
    (sym c.if-pass_saves.false ∙ c.pass_saves.ensures.over pos a1) point

-- none is
pub first_move-returns-in-None-clause-over : goal.first_move-returns-in-None-clause-over
first_move-returns-in-None-clause-over g t c = λ pos a.
    let a1 = agrees_before c.first_success.ensures.stays.grows a in
    let point = rw (c.pass_saves.ensures.stays.moves, c.in-None.is) at (c.first_success.ensures.over pos a) in
    first_point c.args.plies c.args.node (after pos c.args.board.now.moves) _
    (sym c.if-pass_saves.false ∙ c.pass_saves.ensures.over pos a1) point

-- the attacker may not play
pub has_good_move-returns-then-is_barred-clause-over : goal.has_good_move-returns-then-is_barred-clause-over
has_good_move-returns-then-is_barred-clause-over g t c = λ pos a.
    good_barred c.args.plies c.args.node (after pos c.args.board.now.moves)
    (sym c.if-is_barred.true ∙ c.is_barred.ensures.over pos a)

-- the first move is good
pub has_good_move-returns-clause-over : goal.has_good_move-returns-clause-over
has_good_move-returns-clause-over g t c = λ pos a.
    let a1 = agrees_before c.first_move.ensures.stays.grows a in
    let first = rw c.is_barred.ensures.stays.moves at (c.first_move.ensures.over pos a) in
    c.is_some.ensures ∙ good_first c.args.plies c.args.node (after pos c.args.board.now.moves) c.first_move.result
    (sym c.if-is_barred.false ∙ c.is_barred.ensures.over pos a1) first

-- in the stated tree a target that is taken is captured
pub taken_at-returns-then-not-is_wider-clause-over : goal.taken_at-returns-then-not-is_wider-clause-over
taken_at-returns-then-not-is_wider-clause-over g t c = λ pos a.
    let here = after pos c.args.board.now.moves in
    sym (captured_for_good c.args.plies c.args.node here (c.requires.captured pos a)
    (lost_stated c.args.node here (sym c.is_wider.ensures ∙ c.if-not-is_wider.true)))

-- at the attacker's turn it is captured
pub taken_at-returns-then-node-clause-over : goal.taken_at-returns-then-node-clause-over
taken_at-returns-then-node-clause-over g t c = λ pos a.
    let here = after pos c.args.board.now.moves in
    sym (captured_for_good c.args.plies c.args.node here (c.requires.captured pos a)
    (lost_by_attacker c.args.node here c.if-node.true))

-- what tells whether the target's point is walled in, on the board of the position
walled_is : (g : Over) (t : ℕ) (c : taken_at-After-is_walled_in g t) → OnEachAgreeing g.L.Look.seen c.args.board.now
    c.is_walled_in.new.board (λ here. c.is_walled_in.result
    ≡ is_walled_in here.size here.cells c.args.node.turn.target (other c.args.node.turn.defender))
walled_is g t c = λ pos a.
    let here = after pos c.args.board.now.moves in
    c.is_walled_in.ensures.over pos a ∙ ap (λ m. is_walled_in m here.cells c.args.node.turn.target
    (other c.args.node.turn.defender)) (sym (size-after pos c.args.board.now.moves))

-- a target that was no lone stone is captured
pub taken_at-returns-then-not-is_walled_in-clause-over : goal.taken_at-returns-then-not-is_walled_in-clause-over
taken_at-returns-then-not-is_walled_in-clause-over g t c = λ pos a.
    let d = (goal.at.taken_at-returns-then-not-is_walled_in-clause-over g t c).After-is_walled_in in
    let here = after pos c.args.board.now.moves in
    sym (captured_for_good c.args.plies c.args.node here
    (c.requires.captured pos (agrees_before c.is_walled_in.ensures.stays.grows a))
    (lost_free c.args.node here (sym (walled_is g t d pos a) ∙ c.if-not-is_walled_in.true)))

-- the table stays true
pub taken_at-returns-then-not-is_walled_in-clause-table : goal.taken_at-returns-then-not-is_walled_in-clause-table
taken_at-returns-then-not-is_walled_in-clause-table g t c =
    table_more c.requires.table c.is_walled_in.ensures.stays.grows

-- a lone stone was lost
lone_lost : (g : Over) (t : ℕ) (c : taken_at-After-is_walled_in g t) → c.is_walled_in.result ≡ true
    → OnEachAgreeing g.L.Look.seen c.args.board.now c.is_walled_in.new.board (λ here.
    (is_captured here c.args.node.turn.target ≡ true) × (has_lost_one_stone c.args.node here ≡ true))
lone_lost g t c held = λ pos a.
    let here = after pos c.args.board.now.moves in
    let captured = c.requires.captured pos (agrees_before c.is_walled_in.ensures.stays.grows a) in (
      captured,
      lost_lone c.args.node here (sym c.is_wider.ensures ∙ c.if-not-is_wider.false)
          c.if-node.false captured (sym (walled_is g t c pos a) ∙ held),
    )

-- with no ply left it is captured where it cannot be taken back
pub taken_at-returns-then-plies-eq0-clause-over : goal.taken_at-returns-then-plies-eq0-clause-over
taken_at-returns-then-plies-eq0-clause-over g t c = λ pos a.
    let d = (goal.at.taken_at-returns-then-plies-eq0-clause-over g t c).After-is_walled_in in
    let a1 = agrees_before c.may_take_back_at.ensures.stays.grows a in
    let here = after pos c.args.board.now.moves in
    let w = lone_lost g t d c.if-not-is_walled_in.false pos a1 in
    let told = (rw c.is_walled_in.ensures.stays.moves at (c.may_take_back_at.ensures.over pos a))
    (c.requires.sound pos (agrees_before c.is_walled_in.ensures.stays.grows a1)) w.0
    (sym (c.is_walled_in.ensures.over pos a1) ∙ c.if-not-is_walled_in.false) in
    ap not told ∙ sym (lone_left c.args.node here w.0 w.1 c.args.plies c.if-plies-eq0.true)

-- the table stays true here too
pub taken_at-returns-then-plies-eq0-clause-table : goal.taken_at-returns-then-plies-eq0-clause-table
taken_at-returns-then-plies-eq0-clause-table g t c = table_more c.requires.table
    (Grows-trans c.is_walled_in.ensures.stays.grows c.may_take_back_at.ensures.stays.grows)

-- the play that takes back may be read
pub taken_at-succeeds-requires : goal.taken_at-succeeds-requires
taken_at-succeeds-requires g t c κs within =
    let stays = c.is_walled_in.ensures.stays in
    let target = point_after stays c.args.node.turn.target c.requires.target in
    let table = table_more c.requires.table stays.grows in
    let more = c.requires.room in
    let some = c.if-plies-eq0.false in
    let room : length c.is_walled_in.new.board.moves + (c.args.plies - 1) < most_moves =
    rw stays.moves (omega (arith, more, some)) in
    search rules

-- it is captured where the play that takes it back does not succeed
pub taken_at-returns-clause-over : goal.taken_at-returns-clause-over
taken_at-returns-clause-over g t c = λ pos a.
    let d = (goal.at.taken_at-returns-clause-over g t c).After-is_walled_in in
    let here = after pos c.args.board.now.moves in
    let w = lone_lost g t d c.if-not-is_walled_in.false pos
    (agrees_before c.succeeds.ensures.stays.grows a) in
    ap not (rw c.is_walled_in.ensures.stays.moves at (c.succeeds.ensures.over pos a))
    ∙ sym (lone_read c.args.node here w.0 w.1 c.args.plies c.if-plies-eq0.false c.if-node.false)

-- a target that is taken may be taken back: it is on the board, its point is empty, and the table is true
pub wins_at-taken_at-requires : goal.wins_at-taken_at-requires
wins_at-taken_at-requires g t c κs within =
    let stays = c.cell.ensures.stays in
    let target = point_after stays c.args.node.turn.target c.requires.target in
    let table = table_more c.requires.table stays.grows in
    let captured : (pos : BoardState) → Agrees (g.L.Look.seen c.cell.new.self.look) pos
    → is_captured (after pos c.cell.new.self.moves) c.args.node.turn.target ≡ true =
    λ pos a. rw stays.moves (rw (c.cell.ensures.over pos a) at
    (sym (eq_is_same_cell c.cell.result Empty) ∙ sym c.eq.ensures ∙ c.if-eq.true)) in
    let sound : (pos : BoardState) → Agrees (g.L.Look.seen c.cell.new.self.look) pos
    → IsPosition (after pos c.cell.new.self.moves) = λ pos a. rw stays.moves (c.cell.ensures.sound pos a) in
    search rules

-- so it is captured or not
pub wins_at-returns-then-eq-clause-over : goal.wins_at-returns-then-eq-clause-over
wins_at-returns-then-eq-clause-over g t c = λ pos a.
    rw c.cell.ensures.stays.moves at (c.taken_at.ensures.over pos a)

-- no ply is left
pub wins_at-returns-then-plies-eq0-clause-over : goal.wins_at-returns-then-plies-eq0-clause-over
wins_at-returns-then-plies-eq0-clause-over g t c = λ pos a.
    let cell = c.cell.ensures.over pos a in
    let stands = sym (eq_is_same_cell c.cell.result Empty) ∙ sym c.eq.ensures ∙ c.if-eq.false in
    sym (wins-no_plies c.args.plies c.args.node (after pos c.args.board.now.moves) (rw cell at stands)
    c.if-plies-eq0.true)

-- the table stays true where no ply is left
pub wins_at-returns-then-plies-eq0-clause-table : goal.wins_at-returns-then-plies-eq0-clause-table
wins_at-returns-then-plies-eq0-clause-table g t c = table_more c.requires.table c.cell.ensures.stays.grows

-- and where the moves are tried
pub wins_at-has_good_move-requires : goal.wins_at-has_good_move-requires
wins_at-has_good_move-requires g t c κs within =
    let table = table_more c.requires.table c.cell.ensures.stays.grows in
    search rules

-- the side to play has a good move or none
pub wins_at-returns-clause-over : goal.wins_at-returns-clause-over
wins_at-returns-clause-over g t c = λ pos a.
    let cell = c.cell.ensures.over pos (agrees_before c.has_good_move.ensures.stays.grows a) in
    let stands = sym (eq_is_same_cell c.cell.result Empty) ∙ sym c.eq.ensures ∙ c.if-eq.false in
    wins-by_move c.args.plies c.args.node (after pos c.args.board.now.moves) c.has_good_move.result
    (rw cell at stands) c.if-plies-eq0.false
    (rw c.cell.ensures.stays.moves at (c.has_good_move.ensures.over pos a))
