-- The walk over the tree answers what the tree says, over every position that agrees with what was seen.
use Rattle.std.proofs.Common.{arith, ◌≡◌, ◌∙◌, ◌-◌, ◌*◌, ◌<◌, ℕ, suc, true, false, not, ap, sym, subst, refl, rules}
use Rattle.std.proofs.lemmas.Bool.{and_parts}
use Rattle.std.specs.FinSet as set
use Rattle.go_rules.specs.Position.{BoardState}
use Rattle.go_base.specs.Facts.{Agrees, agrees_before, same_size}
use Rattle.go_base.proofs.SidesOfPoints.{square_small}
use Rattle.trial_board.specs.Trials.{after, Stays-trans}
use Rattle.trial_board.proofs.AfterLemmas.{size-after}
use Rattle.read_rules.proofs.AreaLemmas.{AddsNear-trans}
use Rattle.connect_rules.specs.ConnectingMoves.{is_connecting_move}
use Rattle.connect_rules.specs.Connection.{can_connect, has_way, is_one_string, leads_to, mover_of}
use Rattle.connect_rules.specs.ConnectionArea.{IsUndecided}
use Rattle.connect_rules.proofs.TreeLemmas.{connects-gone, connects-joined, connects-no_plies}
use Rattle.read_connect.specs.Stages.{attains}
use Rattle.read_connect.specs.Walk.{IsPointOf, IsReady, IsNodeFor, LooksNear, LooksNearFrom}
use Rattle.read_connect.proofs.StageLemmas.{in_both, one_by, shared_move, crossing_move, AreStages, stages_found}
use Rattle.read_connect.proofs.StageLemmas.{a_inside, b_inside, crossing_inside, rest_inside, rest_is_move, last_stage}
use Rattle.read_connect.proofs.StandingNodes.{point_on, standing_node, ready_node, near_ends, near_a, near_b}
use Rattle.read_connect.proofs.StandingNodes.{near_captures, near_play, played_child, passed_child}
use Rattle.read_connect.proofs.TurnLemmas.{own_by, parted_by, other_by}
use Rattle.read_connect.proofs.WalkLemmas.{none_first, none_next, none_left, tells_none, tells_hit, tells_more}
use Rattle.read_connect.proofs.WalkLemmas.{done_legal, refused_leads, one_more_move, ready_still, ready_after}
use Rattle.read_connect.proofs.WalkLemmas.{liberties_after, liberties_still}
use Rattle.read_connect.proofs.tree.+read.Given.{Over}
use Rattle.read_connect.proofs.tree.+read.Goals.{can_connect-After-string-stones, can_connect-After-has}
use Rattle.read_connect.proofs.tree.+read.Goals.{some_move-After-some_of-2, some_move-After-captures_of}
use Rattle.read_connect.proofs.tree.+read.Goals as goal

-- a play that is made and taken back: the side has its way where the tree says so of the position after it
pub attains-returns-in-Done-clause-over : goal.attains-returns-in-Done-clause-over
attains-returns-in-Done-clause-over g t c = λ pos a.
    let a2 = rw c.back.ensures.moves at a in
    let a1 = agrees_before c.can_connect-joined.ensures.stays.grows a2 in
    let here = after pos c.args.board.now.moves in
    let new = after pos c.play.new.self.moves in
    let link = c.args.link in
    let own = c.args.own in
    let legal = done_legal here (mover_of link own) c.args.p new
    (rw (c.in-Done.is, c.mover.ensures) at (c.play.ensures.over pos a1)) in
    c.has_way.ensures ∙ ap (has_way own) (c.can_connect-joined.ensures.over pos a2)
    ∙ sym (ap (leads_to (λ x. has_way own (can_connect c.args.plies link (not own) x))) legal)

-- the play looks near its move, and what is read after it near a child
pub attains-returns-in-Done-clause-near : goal.attains-returns-in-Done-clause-near
attains-returns-in-Done-clause-near g t c = λ pos a q root node moved.
    let a2 = rw c.back.ensures.moves at a in
    let a1 = agrees_before c.can_connect-joined.ensures.stays.grows a2 in
    let a0 = agrees_before c.play.ensures.grows a1 in
    let here = after pos c.args.board.now.moves in
    let new = after pos c.play.new.self.moves in
    let link = c.args.link in
    let own = c.args.own in
    let und = c.requires.ready.undecided pos a0 in
    let at = ready_node c.requires.ready (g.met.L.Look.sized c.args.board.now.look) a0 node in
    let legal = done_legal here (mover_of link own) c.args.p new
    (rw (c.in-Done.is, c.mover.ensures) at (c.play.ensures.over pos a1)) in
    rw c.back.ensures.moves (AddsNear-trans (near_play at c.args.p moved (c.play.ensures.near pos a1))
    (c.can_connect-joined.ensures.near pos a2 q root (played_child und c.args.p at moved legal)))

-- a refused play leads nowhere
pub attains-returns-in_default-clause-over : goal.attains-returns-in_default-clause-over
attains-returns-in_default-clause-over g t c = λ pos a.
    let link = c.args.link in
    let own = c.args.own in
    sym (refused_leads (λ x. has_way own (can_connect c.args.plies link (not own) x)) (after pos c.args.board.now.moves)
    (mover_of link own) c.args.p c.play.result (after pos c.play.new.self.moves)
    (rw c.mover.ensures at (c.play.ensures.over pos a)) c.in_default.not-Done)

-- and looks near its move
pub attains-returns-in_default-clause-near : goal.attains-returns-in_default-clause-near
attains-returns-in_default-clause-near g t c = λ pos a q root node moved.
    let at = ready_node c.requires.ready (g.met.L.Look.sized c.args.board.now.look)
    (agrees_before c.play.ensures.grows a) node in
    near_play at c.args.p moved (c.play.ensures.near pos a)

-- the pass parts the strings where they cannot be joined after it
pub pass_parts-returns-clause-over : goal.pass_parts-returns-clause-over
pass_parts-returns-clause-over g t c = grind arith

-- what is read after it is read at a child
pub pass_parts-returns-clause-near : goal.pass_parts-returns-clause-near
pass_parts-returns-clause-near g t c = λ pos a q root node.
    let a2 = rw c.back.ensures.moves at a in
    let a0 = rw c.pass.ensures at (agrees_before c.can_connect-joined.ensures.stays.grows a2) in
    let at = ready_node c.requires (g.met.L.Look.sized c.args.board.now.look) a0 node in
    rw c.back.ensures.moves ((rw c.pass.ensures at (c.can_connect-joined.ensures.near pos a2 q root))
    (passed_child (c.requires.undecided pos a0) at))

-- nothing was tried
pub some_of-loop-p-init : goal.some_of-loop-p-init
some_of-loop-p-init g t c = grind (arith, none_first)

-- one more point failed
pub some_of-loop-p-preserved : goal.some_of-loop-p-preserved
some_of-loop-p-preserved g t c =
    let i = c.loop-p.invariant in
    let first = c.in-Some.ensures.some in
    let later = c.attains.ensures.stays in
    record {
      stays = Stays-trans i.stays later;
      near = λ pos a q root node its.
          let a0 = agrees_before later.grows a in
          AddsNear-trans (i.near pos a0 q root node its)
          ((rw i.stays.moves at (c.attains.ensures.near pos a q root)) node (its c.in-Some.p first.2));
      none = λ pos a.
          let a0 = agrees_before later.grows a in
          none_next (set.contains c.args.points.now)
          (attains c.args.plies c.args.link c.args.own (after pos c.args.board.now.moves)) c.loop-p.next c.in-Some.p
          (i.none pos a0) first.3
          (sym (rw i.stays.moves at (c.attains.ensures.over pos a)) ∙ c.if-attains.false);
    }

-- a point serves
pub some_of-returns-then-attains-clause-over : goal.some_of-returns-then-attains-clause-over
some_of-returns-then-attains-clause-over g t c = λ pos a.
    tells_hit (set.contains c.args.points.now)
    (attains c.args.plies c.args.link c.args.own (after pos c.args.board.now.moves)) true refl c.in-Some.p
    c.in-Some.ensures.some.2
    (sym (rw c.loop-p.invariant.stays.moves at (c.attains.ensures.over pos a)) ∙ c.if-attains.true)

-- its play and those before it look near
pub some_of-returns-then-attains-clause-near : goal.some_of-returns-then-attains-clause-near
some_of-returns-then-attains-clause-near g t c = grind arith

-- no point serves
pub some_of-returns-clause-over : goal.some_of-returns-clause-over
some_of-returns-clause-over g t c = grind (arith, tells_none, none_left)

-- a string is gone
pub can_connect-returns-then-not-both_stand-clause-over : goal.can_connect-returns-then-not-both_stand-clause-over
can_connect-returns-then-not-both_stand-clause-over g t c = grind (arith, connects-gone)

-- the two points are in the area
pub can_connect-returns-then-not-both_stand-clause-near : goal.can_connect-returns-then-not-both_stand-clause-near
can_connect-returns-then-not-both_stand-clause-near g t c = grind (arith, near_ends)

-- what was looked at before the first string's stones are known lies in the area
first_near : (g : Over) (t : ℕ) (c : can_connect-After-string-stones g t) → LooksNearFrom g.L.Look.seen
    c.args.board.now c.string-stones.new.self c.args.plies c.args.link c.args.own
first_near g t c = λ pos a q root child.
    let a1 = agrees_before c.string-stones.ensures.stays.grows a in
    let at = standing_node c.requires.on_board (g.met.L.Look.sized c.args.board.now.look)
    (agrees_before c.both_stand.ensures.stays.grows a1)
    (sym (c.both_stand.ensures.over pos a1) ∙ c.if-not-both_stand.false) child.node in
    AddsNear-trans (near_ends child c.both_stand.ensures.near)
    (near_a at (rw c.both_stand.ensures.stays.moves at (c.string-stones.ensures.near pos a)))

-- whether the two are one string
one : (g : Over) (t : ℕ) (c : can_connect-After-has g t) (pos : BoardState)
    → Agrees (g.L.Look.seen c.string-stones.new.self.look) pos
    → is_one_string c.args.link (after pos c.args.board.now.moves) ≡ c.has.result
one g t c pos a =
    let a1 = agrees_before c.string-stones.ensures.stays.grows a in
    let a0 = agrees_before c.both_stand.ensures.stays.grows a1 in
    let b_on = point_on pos.size (g.L.Look.shows c.args.board.now.look).size c.args.link.b
    (same_size (g.met.L.Look.sized c.args.board.now.look) a0) c.requires.on_board.b in
    let found = rw c.both_stand.ensures.stays.moves at (c.string-stones.ensures.over pos a) in
    sym (c.has.ensures ∙ one_by c.args.link pos.size (after pos c.args.board.now.moves) c.string-stones.result.stones
    (size-after pos c.args.board.now.moves) b_on found.0)

-- they are undecided where they are not
apart : (g : Over) (t : ℕ) (c : can_connect-After-has g t) → c.has.result ≡ false → (pos : BoardState)
    → Agrees (g.L.Look.seen c.string-stones.new.self.look) pos
    → IsUndecided c.args.link (after pos c.args.board.now.moves)
apart g t c none pos a = grind (arith, one g t c pos a)

-- the two are one string
pub can_connect-returns-then-has-clause-over : goal.can_connect-returns-then-has-clause-over
can_connect-returns-then-has-clause-over g t c = λ pos a.
    let a0 = agrees_before c.string-stones.ensures.stays.grows a in
    sym (connects-joined c.args.plies c.args.link c.args.own (after pos c.args.board.now.moves)
    (sym (c.both_stand.ensures.over pos a0) ∙ c.if-not-both_stand.false)
    (one g t (goal.at.can_connect-returns-then-has-clause-over g t c).After-has pos a ∙ c.if-has.true))

-- the first string was looked at
pub can_connect-returns-then-has-clause-near : goal.can_connect-returns-then-has-clause-near
can_connect-returns-then-has-clause-near g t c =
    first_near g t (goal.at.can_connect-returns-then-has-clause-near g t c).After-string-stones

-- no ply is left
pub can_connect-returns-then-plies-eq0-clause-over : goal.can_connect-returns-then-plies-eq0-clause-over
can_connect-returns-then-plies-eq0-clause-over g t c = λ pos a.
    let here = after pos c.args.board.now.moves in
    sym (ap (λ n. can_connect n c.args.link c.args.own here) c.if-plies-eq0.true
    ∙ connects-no_plies c.args.link c.args.own here
    (one g t (goal.at.can_connect-returns-then-plies-eq0-clause-over g t c).After-has pos a ∙ c.if-has.false))

-- the first string was looked at
pub can_connect-returns-then-plies-eq0-clause-near : goal.can_connect-returns-then-plies-eq0-clause-near
can_connect-returns-then-plies-eq0-clause-near g t c =
    first_near g t (goal.at.can_connect-returns-then-plies-eq0-clause-near g t c).After-string-stones

-- their own colour is to play
pub goes_on-returns-then-own-clause-over : goal.goes_on-returns-then-own-clause-over
goes_on-returns-then-own-clause-over g t c = grind (arith, own_by)

-- the other colour's pass parts them
pub goes_on-returns-then-pass_parts-clause-over : goal.goes_on-returns-then-pass_parts-clause-over
goes_on-returns-then-pass_parts-clause-over g t c = grind (arith, parted_by)

-- or one of its moves does, or none
pub goes_on-returns-clause-over : goal.goes_on-returns-clause-over
goes_on-returns-clause-over g t c = grind (arith, other_by)

-- a liberty of both serves
pub some_move-returns-then-some_of-clause-over : goal.some_move-returns-then-some_of-clause-over
some_move-returns-then-some_of-clause-over g t c = λ pos a.
    let here = after pos c.args.board.now.moves in
    tells_more (set.contains c.intersection-tried.result) (is_connecting_move c.args.link here)
    (attains c.args.plies c.args.link c.args.own here) c.some_of.result true
    (c.some_of.ensures.over pos a) c.if-some_of.true refl
    (shared_move c.requires.liberties c.intersection-tried.result c.intersection-tried.ensures pos
    (agrees_before c.some_of.ensures.stays.grows a))

-- the first point is on the board
pub can_connect-string-stones-requires : goal.can_connect-string-stones-requires
can_connect-string-stones-requires g t c = grind arith

-- and the second is one of the largest board
pub can_connect-has-requires : goal.can_connect-has-requires
can_connect-has-requires g t c = grind (arith, square_small)

-- it is on this board
pub can_connect-liberties-of_b-requires : goal.can_connect-liberties-of_b-requires
can_connect-liberties-of_b-requires g t c = grind arith

-- both stand, they are apart, and these are their liberties
pub can_connect-goes_on-requires : goal.can_connect-goes_on-requires
can_connect-goes_on-requires g t c κs within =
    grind (
      arith,
      apart g t (goal.at.can_connect-goes_on-requires g t c).After-has c.if-has.false,
      ready_after,
      liberties_after,
    )

-- the strings and what follows are looked at near
pub can_connect-returns-clause-near : goal.can_connect-returns-clause-near
can_connect-returns-clause-near g t c = λ pos a q root child.
    let a3 = agrees_before c.goes_on.ensures.stays.grows a in
    let a2 = agrees_before c.liberties-of_b.ensures.stays.grows a3 in
    let a1 = agrees_before c.string-stones.ensures.stays.grows a2 in
    let a0 = agrees_before c.both_stand.ensures.stays.grows a1 in
    let link = c.args.link in
    let here = after pos c.args.board.now.moves in
    let at = standing_node c.requires.on_board (g.met.L.Look.sized c.args.board.now.look) a0
    (sym (c.both_stand.ensures.over pos a1) ∙ c.if-not-both_stand.false) child.node in
    let before = c.string-stones.ensures.stays.moves ∙ c.both_stand.ensures.stays.moves in
    let more : c.args.plies ≡ suc (c.args.plies - 1) = omega (arith, c.if-plies-eq0.false) in
    AddsNear-trans
    (first_near g t (goal.at.can_connect-returns-clause-near g t c).After-string-stones pos a2 q root child)
    (AddsNear-trans (near_b at (rw before at (c.liberties-of_b.ensures.near pos a3)))
    ((rw (c.liberties-of_b.ensures.stays.moves ∙ before) at (c.goes_on.ensures.near pos a q root))
    (subst (λ n. IsNodeFor link q root n c.args.own here) more child.node)))

-- and told by the tree
pub can_connect-returns-clause-over : goal.can_connect-returns-clause-over
can_connect-returns-clause-over g t c = grind arith

-- one more move stands
pub attains-can_connect-joined-requires : goal.attains-can_connect-joined-requires
attains-can_connect-joined-requires g t c κs within = grind (arith, one_more_move)

-- the pass stands
pub pass_parts-can_connect-joined-requires : goal.pass_parts-can_connect-joined-requires
pass_parts-can_connect-joined-requires g t c κs within = grind arith

-- the loop keeps what is asked of a node
pub some_of-attains-requires : goal.some_of-attains-requires
some_of-attains-requires g t c κs within = grind (arith, ready_still)

-- the pass was taken back
pub goes_on-some_move-requires-2 : goal.goes_on-some_move-requires-2
goes_on-some_move-requires-2 g t c κs within = grind (arith, ready_still, liberties_still)

-- their own moves look near
pub goes_on-returns-then-own-clause-near : goal.goes_on-returns-then-own-clause-near
goes_on-returns-then-own-clause-near g t c = λ pos a q root node. c.some_move.ensures.near pos a q root node

-- the other colour's pass looks near
pub goes_on-returns-then-pass_parts-clause-near : goal.goes_on-returns-then-pass_parts-clause-near
goes_on-returns-then-pass_parts-clause-near g t c = grind arith

-- and the moves after it
pub goes_on-returns-clause-near : goal.goes_on-returns-clause-near
goes_on-returns-clause-near g t c = λ pos a q root node.
    let a1 = agrees_before c.some_move-2.ensures.stays.grows a in
    AddsNear-trans (c.pass_parts.ensures.near pos a1 q root
    (subst (λ o. IsNodeFor c.args.link q root (suc c.args.plies) o (after pos c.args.board.now.moves)) c.if-own.false
    node))
    ((rw c.pass_parts.ensures.stays.moves at (c.some_move-2.ensures.near pos a q root)) node)

-- a liberty of both is on the board
pub some_move-some_of-requires : goal.some_move-some_of-requires
some_move-some_of-requires g t c κs within =
    let shown = g.L.Look.shows c.args.board.now.look in
    let on : (p : ℕ) → set.contains c.intersection-tried.result p ≡ true → p < shown.size * shown.size =
    λ p h. a_inside c.requires.liberties shown (g.met.L.Look.holds c.args.board.now.look) p
    (and_parts _ _ (sym (in_both c.args.of_a.now c.args.of_b.now c.intersection-tried.result
    c.intersection-tried.ensures p) ∙ h)).0 in
    search rules

-- the liberties of both strings are on the board
pub some_move-crossing-crossing-requires : goal.some_move-crossing-crossing-requires
some_move-crossing-crossing-requires g t c =
    let shown = g.L.Look.shows c.args.board.now.look in
    let holds = g.met.L.Look.holds c.args.board.now.look in
    let same = c.size.ensures ∙ ap (λ (pos : BoardState). pos.size) c.some_of.ensures.stays.shown in
    record {
      a_on = λ p h. subst (λ n. p < n * n) (sym same) (a_inside c.requires.liberties shown holds p h);
      b_on = λ p h. subst (λ n. p < n * n) (sym same) (b_inside c.requires.liberties shown holds p h);
    }

-- so are those that reach across
pub some_move-some_of-requires-2 : goal.some_move-some_of-requires-2
some_move-some_of-requires-2 g t c κs within =
    let look = c.args.board.now.look in
    let board = c.some_of.new.board in
    let stays = c.some_of.ensures.stays in
    let ready : IsReady g.L.Look.shows g.L.Look.seen board c.args.link c.args.plies =
    ready_still g.L.Look.shows g.L.Look.seen c.args.board.now board c.args.link c.args.plies stays c.requires.ready in
    let on : (p : ℕ) → set.contains c.crossing-crossing.result p ≡ true → IsPointOf g.L.Look.shows board p =
    λ p h. subst (λ (pos : BoardState). p < pos.size * pos.size) (sym stays.shown)
    (crossing_inside c.requires.liberties (g.L.Look.shows look) (g.met.L.Look.holds look) c.size.result p
    (sym (c.crossing-crossing.ensures p) ∙ h)) in
    search rules

-- both points are still on the board
pub some_move-captures_of-requires : goal.some_move-captures_of-requires
some_move-captures_of-requires g t c = grind (arith, ready_still)

-- the stages that were found, on a position that agrees with what was seen of the captures
stages : (g : Over) (t : ℕ) (c : some_move-After-captures_of g t) (pos : BoardState)
    → Agrees (g.L.Look.seen c.captures_of.new.board.look) pos
    → AreStages c.args.link pos.size (after pos c.args.board.now.moves) c.args.of_a.now c.args.of_b.now
    c.intersection-tried.result c.crossing-crossing.result c.captures_of.result
stages g t c pos a =
    let before = Stays-trans c.some_of.ensures.stays c.some_of-2.ensures.stays in
    let a0 = agrees_before before.grows (agrees_before c.captures_of.ensures.stays.grows a) in
    let sized = c.size.ensures ∙ ap (λ (x : BoardState). x.size) c.some_of.ensures.stays.shown
    ∙ sym (same_size (g.met.L.Look.sized c.args.board.now.look) a0) in
    stages_found c.requires.liberties pos a0 sized c.intersection-tried.ensures c.crossing-crossing.ensures
    (λ p. rw before.moves at (c.captures_of.ensures.over pos a p))

-- a capture is on the board
pub some_move-some_of-requires-3 : goal.some_move-some_of-requires-3
some_move-some_of-requires-3 g t c κs within =
    let board = c.captures_of.new.board in
    let before = Stays-trans c.some_of.ensures.stays c.some_of-2.ensures.stays in
    let stays = Stays-trans before c.captures_of.ensures.stays in
    let ready : IsReady g.L.Look.shows g.L.Look.seen board c.args.link c.args.plies =
    ready_still g.L.Look.shows g.L.Look.seen c.args.board.now board c.args.link c.args.plies stays c.requires.ready in
    let found = stages g t (goal.at.some_move-some_of-requires-3 g t c).After-captures_of (g.L.Look.shows board.look)
    (g.met.L.Look.holds board.look) in
    let on : (p : ℕ) → set.contains c.difference-captures.result p ≡ true → IsPointOf g.L.Look.shows board p =
    rest_inside found c.join.new.self c.difference-captures.result c.difference-captures.ensures in
    search rules

-- a liberty of both is looked at near
pub some_move-returns-then-some_of-clause-near : goal.some_move-returns-then-some_of-clause-near
some_move-returns-then-some_of-clause-near g t c = λ pos a q root node.
    c.some_of.ensures.near pos a q root node
    (shared_move c.requires.liberties c.intersection-tried.result c.intersection-tried.ensures pos
    (agrees_before c.some_of.ensures.stays.grows a))

-- one that reaches across serves
pub some_move-returns-then-some_of-2-clause-over : goal.some_move-returns-then-some_of-2-clause-over
some_move-returns-then-some_of-2-clause-over g t c = λ pos a.
    let a1 = agrees_before c.some_of-2.ensures.stays.grows a in
    let a0 = agrees_before c.some_of.ensures.stays.grows a1 in
    let sized = c.size.ensures ∙ ap (λ (x : BoardState). x.size) c.some_of.ensures.stays.shown
    ∙ sym (same_size (g.met.L.Look.sized c.args.board.now.look) a0) in
    let here = after pos c.args.board.now.moves in
    tells_more (set.contains c.crossing-crossing.result) (is_connecting_move c.args.link here)
    (attains c.args.plies c.args.link c.args.own here) c.some_of-2.result true
    (rw c.some_of.ensures.stays.moves at (c.some_of-2.ensures.over pos a)) c.if-some_of-2.true refl
    (crossing_move c.requires.liberties c.crossing-crossing.result c.size.result c.crossing-crossing.ensures pos sized
    a0)

-- the looks at the first two stages lie in the area
two_near : (g : Over) (t : ℕ) (c : some_move-After-some_of-2 g t) → LooksNear g.L.Look.seen c.args.board.now
    c.some_of-2.new.board (suc c.args.plies) c.args.link c.args.own
two_near g t c = λ pos a q root node.
    let a1 = agrees_before c.some_of-2.ensures.stays.grows a in
    let a0 = agrees_before c.some_of.ensures.stays.grows a1 in
    let sized = c.size.ensures ∙ ap (λ (x : BoardState). x.size) c.some_of.ensures.stays.shown
    ∙ sym (same_size (g.met.L.Look.sized c.args.board.now.look) a0) in
    AddsNear-trans (c.some_of.ensures.near pos a1 q root node
    (shared_move c.requires.liberties c.intersection-tried.result c.intersection-tried.ensures pos a0))
    ((rw c.some_of.ensures.stays.moves at (c.some_of-2.ensures.near pos a q root)) node
    (crossing_move c.requires.liberties c.crossing-crossing.result c.size.result c.crossing-crossing.ensures pos sized
    a0))

-- and is looked at near
pub some_move-returns-then-some_of-2-clause-near : goal.some_move-returns-then-some_of-2-clause-near
some_move-returns-then-some_of-2-clause-near g t c =
    two_near g t (goal.at.some_move-returns-then-some_of-2-clause-near g t c).After-some_of-2

-- the captures are the last stage
pub some_move-returns-clause-over : goal.some_move-returns-clause-over
some_move-returns-clause-over g t c = λ pos a.
    let a3 = agrees_before c.some_of-3.ensures.stays.grows a in
    let a2 = agrees_before c.captures_of.ensures.stays.grows a3 in
    let first = c.some_of.ensures.stays in
    let second = c.some_of-2.ensures.stays in
    let all = Stays-trans (Stays-trans first second) c.captures_of.ensures.stays in
    last_stage (stages g t (goal.at.some_move-returns-clause-over g t c).After-captures_of pos a3) c.join.new.self
    c.difference-captures.result c.difference-captures.ensures c.join.ensures
    (attains c.args.plies c.args.link c.args.own (after pos c.args.board.now.moves)) c.some_of.result c.some_of-2.result
    c.some_of-3.result (c.some_of.ensures.over pos (agrees_before second.grows a2)) c.if-some_of.false
    (rw first.moves at (c.some_of-2.ensures.over pos a2)) c.if-some_of-2.false
    (rw all.moves at (c.some_of-3.ensures.over pos a))

-- and all three are looked at near
pub some_move-returns-clause-near : goal.some_move-returns-clause-near
some_move-returns-clause-near g t c = λ pos a q root node.
    let d = goal.at.some_move-returns-clause-near g t c in
    let a3 = agrees_before c.some_of-3.ensures.stays.grows a in
    let a2 = agrees_before c.captures_of.ensures.stays.grows a3 in
    let before = Stays-trans c.some_of.ensures.stays c.some_of-2.ensures.stays in
    let all = Stays-trans before c.captures_of.ensures.stays in
    let at = ready_node c.requires.ready (g.met.L.Look.sized c.args.board.now.look) (agrees_before before.grows a2)
    node in
    AddsNear-trans (two_near g t d.After-some_of-2 pos a2 q root node)
    (AddsNear-trans (near_captures at (rw before.moves at (c.captures_of.ensures.near pos a3)))
    ((rw all.moves at (c.some_of-3.ensures.near pos a q root)) node
    (rest_is_move (stages g t d.After-captures_of pos a3) c.join.new.self
    c.difference-captures.result c.difference-captures.ensures)))
