-- The first node is read by the rules of its turn.
use Rattle.std.proofs.Common.{◌≡◌, ◌∙◌, ◌-◌, suc, false, sym, subst, arith}
use Rattle.std.proofs.lemmas.Bool.{and_parts}
use Rattle.go_rules.specs.Position.{BoardState}
use Rattle.go_base.specs.Facts.{Agrees, agrees_before, same_size}
use Rattle.go_base.proofs.SidesOfPoints.{square_small}
use Rattle.trial_board.specs.Trials.{after, Stays-trans}
use Rattle.trial_board.proofs.AfterLemmas.{size-after}
use Rattle.read_rules.proofs.AreaLemmas.{AddsNear-trans}
use Rattle.connect_rules.specs.Connection.{is_one_string}
use Rattle.connect_rules.specs.ConnectionArea.{IsUndecided}
use Rattle.connect_rules.specs.Linkages.{link_of}
use Rattle.read_connect.specs.Walk.{IsNodeFor}
use Rattle.read_connect.proofs.StageLemmas.{one_by}
use Rattle.read_connect.proofs.StandingNodes.{standing_node, near_a, near_b, point_on}
use Rattle.read_connect.proofs.ReadingLemmas.{one_told, apart_told, told_none, one_none, one_on}
use Rattle.read_connect.proofs.WalkLemmas.{ready_after, liberties_after}
use Rattle.read_connect.proofs.reading.first_node.Given.{Over}
use Rattle.read_connect.proofs.reading.first_node.Goals as goal
use Rattle.read_connect.proofs.reading.first_node.Goals.{After-has}

-- the second point is one of the largest board
pub has-requires : goal.has-requires
has-requires g c = grind (arith, square_small)

-- whether the two are one string, on each position that agrees with what was seen of the first
one : (g : Over) (c : After-has g) (pos : BoardState) → Agrees (g.L.Look.seen c.string-stones.new.self.look) pos
    → is_one_string (link_of c.args.question.now) (after pos c.args.board.now.moves) ≡ c.has.result
one g c pos a =
    let a0 = agrees_before c.string-stones.ensures.stays.grows a in
    let link = link_of c.args.question.now in
    let b_on = point_on pos.size (g.L.Look.shows c.args.board.now.look).size link.b
    (same_size (g.met.L.Look.sized c.args.board.now.look) a0) c.requires.on_board.b in
    sym (c.has.ensures ∙ one_by link pos.size (after pos c.args.board.now.moves) c.string-stones.result.stones
    (size-after pos c.args.board.now.moves) b_on (c.string-stones.ensures.over pos a).0)

-- they are undecided where they are not
apart : (g : Over) (c : After-has g) → c.has.result ≡ false → (pos : BoardState)
    → Agrees (g.L.Look.seen c.string-stones.new.self.look) pos
    → IsUndecided (link_of c.args.question.now) (after pos c.args.board.now.moves)
apart g c none pos a = grind (arith, one g c pos a, and_parts)

-- the answer about one string
pub returns-then-has : goal.returns-then-has
returns-then-has g c = record {
  stays = c.string-stones.ensures.stays;
  none = rw c.one_string.ensures (one_none c.is_connect-own.result);
  on_board = rw c.one_string.ensures
      (one_on (g.L.Look.shows c.args.board.now.look).size c.is_connect-own.result);
  over = λ pos a.
      let a0 = agrees_before c.string-stones.ensures.stays.grows a in
      c.one_string.ensures ∙ one_told c.args.question.now (after pos c.args.board.now.moves) c.is_connect-own.result
      c.is_connect-own.ensures (c.requires.about pos a0)
      (one g (goal.at.returns-then-has g c).After-has pos a ∙ c.if-has.true);
  near = λ pos a q root node.
      let a0 = agrees_before c.string-stones.ensures.stays.grows a in
      near_a (standing_node c.requires.on_board (g.met.L.Look.sized c.args.board.now.look) a0
      (and_parts _ _ (c.requires.about pos a0)).1 node) (c.string-stones.ensures.near pos a);
}

-- the second point is on the board
pub liberties-of_b-requires : goal.liberties-of_b-requires
liberties-of_b-requires g c = grind arith

-- the first node is undecided, and these are the liberties
pub first_move-at-requires : goal.first_move-at-requires
first_move-at-requires g c =
    let first = c.string-stones.ensures.stays in
    let second = c.liberties-of_b.ensures.stays in
    record {
      ready = ready_after _ (Stays-trans first second) (omega (arith, c.requires.room, c.requires.plies))
          c.requires.on_board (λ pos a. apart g (goal.at.first_move-at-requires g c).After-has c.if-has.false pos
          (agrees_before second.grows a));
      liberties = liberties_after first second (λ pos a. (c.string-stones.ensures.over pos a).1)
          c.liberties-of_b.ensures.over;
    }

-- the answer about strings that are apart
pub returns-clause-over : goal.returns-clause-over
returns-clause-over g c = λ pos a.
    let a2 = agrees_before c.first_move-at.ensures.stays.grows a in
    let a1 = agrees_before c.liberties-of_b.ensures.stays.grows a2 in
    let a0 = agrees_before c.string-stones.ensures.stays.grows a1 in
    let moves = c.liberties-of_b.ensures.stays.moves ∙ c.string-stones.ensures.stays.moves in
    apart_told c.args.question.now (after pos c.args.board.now.moves) c.is_connect-own.result c.first_move-at.result
    c.is_some.result c.is_connect-own.ensures (omega (arith, c.requires.plies)) (c.requires.about pos a0)
    (one g (goal.at.returns-clause-over g c).After-has pos a1 ∙ c.if-has.false)
    (rw moves at (c.first_move-at.ensures.over pos a)) c.is_some.ensures

-- no move is there if the answer is no
pub returns-clause-none : goal.returns-clause-none
returns-clause-none g c = told_none c.first_move-at.result c.is_some.result c.is_some.ensures

-- the move is on the board
pub returns-clause-on_board : goal.returns-clause-on_board
returns-clause-on_board g c = grind arith

-- both strings and what follows are looked at near
pub returns-clause-near : goal.returns-clause-near
returns-clause-near g c = λ pos a q root node.
    let a2 = agrees_before c.first_move-at.ensures.stays.grows a in
    let a1 = agrees_before c.liberties-of_b.ensures.stays.grows a2 in
    let link = link_of c.args.question.now in
    let here = after pos c.args.board.now.moves in
    let n = c.args.question.now.plies in
    let a0 = agrees_before c.string-stones.ensures.stays.grows a1 in
    let more : n ≡ suc (n - 1) = omega (arith, c.requires.plies) in
    let at = standing_node c.requires.on_board (g.met.L.Look.sized c.args.board.now.look) a0
    (and_parts _ _ (c.requires.about pos a0)).1 node in
    let moves = c.liberties-of_b.ensures.stays.moves ∙ c.string-stones.ensures.stays.moves in
    AddsNear-trans (near_a at (c.string-stones.ensures.near pos a1))
    (AddsNear-trans (near_b at (rw c.string-stones.ensures.stays.moves at (c.liberties-of_b.ensures.near pos a2)))
    ((rw moves at (c.first_move-at.ensures.near pos a q root))
    (subst (λ k. IsNodeFor link q root k c.is_connect-own.result here) more
    (subst (λ o. IsNodeFor link q root n o here) (sym c.is_connect-own.ensures) node))))
