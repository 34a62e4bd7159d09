use Rattle.std.proofs.Common.{◌≡◌, ◌+◌, ◌*◌, arith, refl}
use Rattle.go_rules.specs.Neighbourhood.{neighbourhood_of}
use Rattle.go_rules.specs.Position.{BoardState}
use Rattle.go_base.specs.Bits.{marked}
use Rattle.go_base.proofs.Marks.{marked-nothing}
use Rattle.go_base.specs.Floods.{enemy_points}
use Rattle.go_base.specs.Views.{alone}
use Rattle.go_base.proofs.PointNeighbourhoods.{close_again, close_point}
use Rattle.go_base.proofs.FloodVisits.{enemy_beside, enemy_close, no_enemy}
use Rattle.go_base.proofs.LastLiberties.{Lasts, Lasts-none, Lasts-jump, Lasts-add, Lasts-all, KnowsLast-none}
use Rattle.go_base.proofs.LookSequences.{Looks-none, Looks-more}
use Rattle.go_base.proofs.surroundings.surroundings_of.Given.{Over}
use Rattle.go_base.proofs.surroundings.surroundings_of.Goals as goal
use Rattle.go_base.proofs.surroundings.surroundings_of.Goals.{After-add_last_liberty}

-- no string has come
pub loop-q-init : goal.loop-q-init
loop-q-init g c = record {
  looks = c.search_into.ensures.looks;
  more = Looks-none g.met.V.View.asks_none _ _;
  near = λ pos a.
      let s = g.V.View.rows c.args.board.now in
      let cells = g.V.View.cells c.args.board.now pos in
      g.met.V.View.asks_within _ _ _ _ (c.search_into.ensures.near pos a)
      (λ q h. close_again s cells (alone c.args.p) q h);
  over = λ pos a. Lasts-none _ _ _ c.new-last_liberties.result c.new-last_liberties.ensures;
  knows = λ pos a. KnowsLast-none _ _ (marked c.new-seen.result) c.new-last_liberties.result
      (marked-nothing _ c.new-seen.ensures);
}

-- an enemy is on the board
pub add_last_liberty-requires : goal.add_last_liberty-requires
add_last_liberty-requires g c = grind arith

-- a position that agrees with all that was asked agreed before the enemy's string was looked at
agreed : (g : Over) (c : After-add_last_liberty g) (pos : BoardState)
    → g.V.View.agrees c.add_last_liberty.new.board pos → g.V.View.agrees c.loop-q.board pos
agreed g c pos a = g.met.V.View.asks_agrees _ _ _ c.add_last_liberty.ensures.looks.asked pos a

-- on it the enemies beside the string are those that were found
foes : (g : Over) (c : After-add_last_liberty g) (pos : BoardState) → g.V.View.agrees c.add_last_liberty.new.board pos
    → c.search_into.new.enemies
    ≡ enemy_points (g.V.View.rows c.args.board.now) (g.V.View.cells c.args.board.now pos) c.args.p
foes g c pos a = c.search_into.ensures.enemies pos
    (g.met.V.View.asks_agrees _ _ _ c.loop-q.invariant.more.asked pos (agreed g c pos a)) refl
    c.search_into.ensures.few

-- all that was asked for is close to the string, or close to that
close : (g : Over) (c : After-add_last_liberty g) (pos : BoardState)
    → g.V.View.agrees c.add_last_liberty.new.board pos
    → g.V.View.asks c.args.board.now c.add_last_liberty.new.board (neighbourhood_of (g.V.View.rows c.args.board.now)
    (g.V.View.cells c.args.board.now pos) (neighbourhood_of (g.V.View.rows c.args.board.now)
    (g.V.View.cells c.args.board.now pos) (alone c.args.p)))
close g c pos a =
    let s = g.V.View.rows c.args.board.now in
    let cells = g.V.View.cells c.args.board.now pos in
    let i = c.loop-q.invariant in
    let rows = g.met.V.View.asks_rows _ _ _ i.looks.asked in
    let its = rw (rows, i.looks.same pos) at (c.add_last_liberty.ensures.near pos a) in
    let beside = enemy_close s cells c.args.p c.in-Some.q c.search_into.new.enemies c.requires (foes g c pos a)
    c.in-Some.ensures.some.2 in
    g.met.V.View.asks_more _ _ _ _ (i.near pos (agreed g c pos a)) (g.met.V.View.asks_within _ _ _ _ its
    (λ r h. close_point s cells (neighbourhood_of s cells (alone c.args.p)) c.in-Some.q beside r h))

-- the last liberties of the strings of all enemies up to the next are there
lasts : (g : Over) (c : After-add_last_liberty g) (pos : BoardState) → g.V.View.agrees c.add_last_liberty.new.board pos
    → Lasts (g.V.View.rows c.args.board.now) (g.V.View.cells c.args.board.now pos) c.args.p (c.in-Some.q + 1)
    c.add_last_liberty.new.last
lasts g c pos a =
    let s = g.V.View.rows c.args.board.now in
    let cells = g.V.View.cells c.args.board.now pos in
    let i = c.loop-q.invariant in
    let q = c.in-Some.q in
    let first = c.in-Some.ensures.some in
    let on = c.search_into.ensures.enemies_on_board q first.2 in
    let enemies = c.search_into.new.enemies in
    let its = enemy_beside s cells c.args.p q enemies (foes g c pos a) first.2 in
    let rows = g.met.V.View.asks_rows _ _ _ i.looks.asked in
    let adds = rw (rows, i.looks.same pos) at (c.add_last_liberty.ensures.adds pos a) in
    Lasts-add s cells c.args.p q _ _ (Lasts-jump s cells c.args.p c.loop-q.next q _ (i.over pos (agreed g c pos a))
    (λ k l m. no_enemy s cells c.args.p k enemies (foes g c pos a) (omega (arith, m, on)) (first.3 k l m)))
    on its.0 its.1 (adds (i.knows pos (agreed g c pos a)))

-- the next enemy's string has its one liberty there
pub loop-q-preserved : goal.loop-q-preserved
loop-q-preserved g c =
    let d = (goal.at.loop-q-preserved g c).After-add_last_liberty in
    let i = c.loop-q.invariant in
    let one = c.add_last_liberty.ensures.looks in
    record {
      looks = Looks-more g.met.V.View.asks_more i.looks one;
      more = Looks-more g.met.V.View.asks_more i.more one;
      near = close g d;
      over = lasts g d;
      knows = grind (arith, agreed);
    }

-- no enemy is left
pub returns-clause-last_liberties : goal.returns-clause-last_liberties
returns-clause-last_liberties g c = λ pos a.
    let s = g.V.View.rows c.args.board.now in
    let cells = g.V.View.cells c.args.board.now pos in
    let a0 = g.met.V.View.asks_agrees _ _ _ c.loop-q.invariant.more.asked pos a in
    Lasts-all s cells c.args.p (s * s) c.loop-q.last_liberties
    (Lasts-jump s cells c.args.p c.loop-q.next (s * s) c.loop-q.last_liberties (c.loop-q.invariant.over pos a)
    (λ k l m beside enemy. no_enemy s cells c.args.p k c.search_into.new.enemies
    (c.search_into.ensures.enemies pos a0 refl c.search_into.ensures.few) m
    (c.in_default.ensures.none k l) beside enemy))
    (omega arith)

-- no more liberties can be than were asked for, so all were found
pub returns-clause-liberties : goal.returns-clause-liberties
returns-clause-liberties g c = λ pos a.
    (c.search_into.ensures.over pos
    (g.met.V.View.asks_agrees _ _ _ c.loop-q.invariant.more.asked pos a)).liberties c.search_into.ensures.few
