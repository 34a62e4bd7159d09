-- The moves in reading order, each read to its end.
use Rattle.std.proofs.Common.{◌≡◌, ◌∙◌, ◌*◌, ◌<◌, ℕ, sym, subst}
use Rattle.std.specs.FinSet as set
use Rattle.go_base.specs.Facts.{Agrees, agrees_before, Grows-refl, Grows-trans, same_size}
use Rattle.go_rules.specs.Position.{BoardState}
use Rattle.trial_board.specs.Trials.{after, Stays-trans}
use Rattle.trial_board.proofs.AfterLemmas.{size-after}
use Rattle.read_rules.proofs.AreaLemmas.{AddsNear-trans}
use Rattle.connect_rules.specs.ConnectingMoves.{is_connecting_move}
use Rattle.connect_rules.proofs.MoveLemmas.{move_on}
use Rattle.read_connect.specs.Stages.{attains}
use Rattle.read_connect.proofs.StageLemmas.{a_inside, b_inside, stages_found, all_moves}
use Rattle.read_connect.proofs.TurnLemmas.{first_hit, first_none}
use Rattle.read_connect.proofs.StandingNodes.{ready_node, near_captures}
use Rattle.read_connect.proofs.WalkLemmas.{none_first, none_next, none_left, before_hit, ready_still}
use Rattle.read_connect.proofs.reading.first_point.Given.{Over}
use Rattle.read_connect.proofs.reading.first_point.Goals as goal
use Rattle.read_connect.proofs.reading.first_point.Goals.{After-join-2}

-- the liberties of both strings are on the board
pub crossing-requires : goal.crossing-requires
crossing-requires g c =
    let shown = g.L.Look.shows c.args.board.now.look in
    let holds = g.met.L.Look.holds c.args.board.now.look in
    record {
      a_on = λ p h. subst (λ n. p < n * n) (sym c.size.ensures) (a_inside c.requires.liberties shown holds p h);
      b_on = λ p h. subst (λ n. p < n * n) (sym c.size.ensures) (b_inside c.requires.liberties shown holds p h);
    }

-- the set has the connecting moves, on each position that agrees with what was seen of the captures
all : (g : Over) (c : After-join-2 g) (pos : BoardState) → Agrees (g.L.Look.seen c.captures_of.new.board.look) pos
    → (p : ℕ) → set.contains c.join-2.new.self p ≡ is_connecting_move c.args.link (after pos c.args.board.now.moves) p
all g c pos a p =
    let a0 = agrees_before c.captures_of.ensures.stays.grows a in
    let sized = c.size.ensures ∙ sym (same_size (g.met.L.Look.sized c.args.board.now.look) a0) in
    all_moves (stages_found c.requires.liberties pos a0 sized c.intersection-moves.ensures c.crossing.ensures
    (c.captures_of.ensures.over pos a)) c.join.new.self c.join-2.new.self c.join.ensures c.join-2.ensures p

-- the captures are looked for near, and no move was tried
pub loop-p-init : goal.loop-p-init
loop-p-init g c = record {
  stays = c.captures_of.ensures.stays;
  grows = Grows-refl _;
  near = λ pos a q root node.
      let a0 = agrees_before c.captures_of.ensures.stays.grows a in
      near_captures (ready_node c.requires.ready (g.met.L.Look.sized c.args.board.now.look) a0 node)
      (c.captures_of.ensures.near pos a);
  none = λ pos a. none_first _ _;
}

-- the next move is on the board
pub attains-requires : goal.attains-requires
attains-requires g c =
    let i = c.loop-p.invariant in
    let shown = g.L.Look.shows c.args.board.now.look in
    let same = c.captures_of.ensures.stays.shown in
    let agrees = subst (Agrees (g.L.Look.seen c.captures_of.new.board.look)) same
    (g.met.L.Look.holds c.captures_of.new.board.look) in
    let on = subst (λ n. c.in-Some.p < n * n) (size-after shown c.args.board.now.moves)
    (move_on c.args.link (after shown c.args.board.now.moves) c.in-Some.p
    (sym (all g (goal.at.attains-requires g c).After-join-2 shown agrees c.in-Some.p) ∙ c.in-Some.ensures.some.2)) in
    record {
      ready = ready_still g.L.Look.shows g.L.Look.seen c.args.board.now c.loop-p.board c.args.link c.args.plies i.stays
          c.requires.ready;
      on_board = subst (λ (pos : BoardState). c.in-Some.p < pos.size * pos.size) (sym i.stays.shown) on;
    }

-- one more move failed
pub loop-p-preserved : goal.loop-p-preserved
loop-p-preserved g c =
    let i = c.loop-p.invariant in
    let first = c.in-Some.ensures.some in
    let later = c.attains.ensures.stays in
    record {
      stays = Stays-trans i.stays later;
      grows = Grows-trans i.grows later.grows;
      near = λ pos a q root node.
          let a1 = agrees_before later.grows a in
          let a0 = agrees_before i.grows a1 in
          AddsNear-trans (i.near pos a1 q root node)
          ((rw i.stays.moves at (c.attains.ensures.near pos a q root)) node
          (sym (all g (goal.at.loop-p-preserved g c).After-join-2 pos a0 c.in-Some.p) ∙ first.2));
      none = λ pos a.
          none_next (set.contains c.join-2.new.self)
          (attains c.args.plies c.args.link c.args.own (after pos c.args.board.now.moves)) c.loop-p.next c.in-Some.p
          (i.none pos (agrees_before later.grows a)) first.3
          (sym (rw i.stays.moves at (c.attains.ensures.over pos a)) ∙ c.if-attains.false);
    }

-- the first that serves
pub returns-then-attains-clause-over : goal.returns-then-attains-clause-over
returns-then-attains-clause-over g c = λ pos a.
    let i = c.loop-p.invariant in
    let first = c.in-Some.ensures.some in
    let a1 = agrees_before c.attains.ensures.stays.grows a in
    let a0 = agrees_before i.grows a1 in
    let here = after pos c.args.board.now.moves in
    let test = attains c.args.plies c.args.link c.args.own here in
    first_hit c.args.plies c.args.link c.args.own here (set.contains c.join-2.new.self)
    (all g (goal.at.returns-then-attains-clause-over g c).After-join-2 pos a0) c.in-Some.p first.2
    (sym (rw i.stays.moves at (c.attains.ensures.over pos a)) ∙ c.if-attains.true)
    (before_hit (set.contains c.join-2.new.self) test c.loop-p.next c.in-Some.p (i.none pos a1) first.3)

-- it is on the board
pub returns-then-attains-clause-on_board : goal.returns-then-attains-clause-on_board
returns-then-attains-clause-on_board g c =
    let shown = g.L.Look.shows c.args.board.now.look in
    let agrees = subst (Agrees (g.L.Look.seen c.captures_of.new.board.look)) c.captures_of.ensures.stays.shown
    (g.met.L.Look.holds c.captures_of.new.board.look) in
    subst (λ n. c.in-Some.p < n * n) (size-after shown c.args.board.now.moves)
    (move_on c.args.link (after shown c.args.board.now.moves) c.in-Some.p
    (sym (all g (goal.at.returns-then-attains-clause-on_board g c).After-join-2 shown agrees c.in-Some.p)
    ∙ c.in-Some.ensures.some.2))

-- it and those before it look near
pub returns-then-attains-clause-near : goal.returns-then-attains-clause-near
returns-then-attains-clause-near g c = λ pos a q root node.
    let i = c.loop-p.invariant in
    let a1 = agrees_before c.attains.ensures.stays.grows a in
    let a0 = agrees_before i.grows a1 in
    AddsNear-trans (i.near pos a1 q root node)
    ((rw i.stays.moves at (c.attains.ensures.near pos a q root)) node
    (sym (all g (goal.at.returns-then-attains-clause-near g c).After-join-2 pos a0 c.in-Some.p)
    ∙ c.in-Some.ensures.some.2))

-- none serves
pub returns-clause-over : goal.returns-clause-over
returns-clause-over g c = λ pos a.
    let i = c.loop-p.invariant in
    let a0 = agrees_before i.grows a in
    let here = after pos c.args.board.now.moves in
    first_none c.args.plies c.args.link c.args.own here (set.contains c.join-2.new.self)
    (all g (goal.at.returns-clause-over g c).After-join-2 pos a0)
    (none_left (set.contains c.join-2.new.self) (attains c.args.plies c.args.link c.args.own here) c.loop-p.next
    (i.none pos a) c.in_default.ensures.none)
