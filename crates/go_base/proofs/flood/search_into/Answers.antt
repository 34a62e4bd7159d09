use Rattle.std.proofs.Common.{◌≡◌, ◌*◌, ◌≤◌, inl, inr, ap, sym, refl, ◌∙◌, arith}
use Rattle.std.specs.Ordering.{nat_cmp}
use Rattle.std.specs.FinSet as set
use Rattle.go_rules.specs.Board.{largest_points}
use Rattle.go_rules.specs.Neighbourhood.{neighbourhood_of}
use Rattle.go_rules.specs.Position.{BoardState}
use Rattle.go_rules.specs.Strings.{cell_at}
use Rattle.go_rules.proofs.Links.{path_same}
use Rattle.go_rules.proofs.Cells.{cells_same, cells_differ}
use Rattle.go_base.proofs.FloodResults.{Begins, Begins-first, Steps, Steps-smaller, waited_before, Finds-within}
use Rattle.go_base.proofs.FloodResults.{stone_from, on_board_one, on_board_more}
use Rattle.go_base.proofs.FloodVisits.{none_at, no_enemies}
use Rattle.go_base.specs.Floods.{with_enemies}
use Rattle.go_base.specs.Views.{alone}
use Rattle.go_base.proofs.BoundedSearches.{FloodsUnder, FloodsUnder-start, FloodsUnder-next, FloodsUnder-all}
use Rattle.go_base.proofs.BoundedSearches.{FloodsUnder-enemies, Searches-none}
use Rattle.go_base.proofs.PointNeighbourhoods.{close_alone, close_around}
use Rattle.go_base.proofs.LookSequences.{Looks-none, Looks-more, Looks-within}
use Rattle.go_base.proofs.flood.search_into.Given.{Over}
use Rattle.go_base.proofs.flood.search_into.Goals as goal
use Rattle.go_base.proofs.flood.search_into.Goals.{After-add_stone, After-spread}

-- at an empty point there is nothing
pub returns-then-eq-clause-over : goal.returns-then-eq-clause-over
returns-then-eq-clause-over g c = λ pos a.
    let none = c.requires in
    Searches-none (g.V.View.rows c.args.board.now) (g.V.View.cells c.args.board.now pos) c.args.p c.args.most _
    (sym (c.at-own.ensures.over pos a) ∙ cells_same _ _ c.eq.result c.eq.ensures c.if-eq.true)
    none.stones none.liberties

-- nor are there enemies next to it
pub returns-then-eq-clause-enemies : goal.returns-then-eq-clause-enemies
returns-then-eq-clause-enemies g c = grind (arith, no_enemies, cells_same)

-- an empty point's string has no liberties
pub returns-then-eq-clause-few : goal.returns-then-eq-clause-few
returns-then-eq-clause-few g c =
    omega (arith, ap set.len c.requires.liberties ∙ set.len-empty nat_cmp)

-- nor stones
pub returns-then-eq-clause-stones_on_board : goal.returns-then-eq-clause-stones_on_board
returns-then-eq-clause-stones_on_board g c = λ q h. absurd (none_at _ q c.requires.stones h)

-- nor enemies
pub returns-then-eq-clause-enemies_on_board : goal.returns-then-eq-clause-enemies_on_board
returns-then-eq-clause-enemies_on_board g c = λ q h. absurd (none_at _ q c.requires.enemies h)

-- only the point itself was looked at
pub returns-then-eq-clause-near : goal.returns-then-eq-clause-near
returns-then-eq-clause-near g c = grind (arith, close_alone)

-- the search begins with the point
begins : (g : Over) (c : After-add_stone g) → Begins c.args.p c.add_stone.new.stones c.add_stone.new.waiting
begins g c = Begins-first c.args.p c.args.found.now.stones c.add_stone.new.stones c.new-waiting.result
    c.add_stone.new.waiting c.requires.stones c.new-waiting.ensures c.add_stone.ensures.stones
    c.add_stone.ensures.waiting

-- the stones begin with the point
pub loop-q-init : goal.loop-q-init
loop-q-init g c =
    let begun = begins g (goal.at.loop-q-init g c).After-add_stone in
    let none = c.requires in
    let s = g.V.View.rows c.args.board.now in
    record {
      looks = Looks-within g.met.V.View.asks_within c.at-own.ensures.looks (λ q h. refl);
      more = Looks-none g.met.V.View.asks_none _ _;
      over = λ pos a. FloodsUnder-start g.E.Enemies.asked s (g.V.View.cells c.args.board.now pos) _ c.args.p
          c.args.most _ _ begun none.liberties none.enemies;
      near = λ pos a. g.met.V.View.asks_within _ _ _ _ c.at-own.ensures.looks.asked
          (λ r h. close_alone s (g.V.View.cells c.args.board.now pos) c.args.p r c.requires.on_board h);
      enemies_on_board = λ r h. absurd (none_at _ r none.enemies h);
      stones_on_board = on_board_one s c.args.p _ c.requires.on_board begun.stones_are;
      waits = λ r h. ap (λ t. set.contains t r) (begun.stones_are ∙ sym begun.waiting_are) ∙ h;
    }

-- what still waits was found
pub spread-requires-clause-waits : goal.spread-requires-clause-waits
spread-requires-clause-waits g c = grind (arith, waited_before)

-- a stone waits no longer, and its neighbours were visited
steps : (g : Over) (c : After-spread g) → Steps (g.V.View.rows c.args.board.now) c.in-Some.q c.loop-q.found.stones
    c.spread.new.found.stones c.loop-q.waiting c.next_stone.new.waiting c.spread.new.waiting
steps g c = grind arith

-- fewer points are left to come or to be visited
pub loop-q-smaller : goal.loop-q-smaller
loop-q-smaller g c =
    let s = g.V.View.rows c.args.board.now in
    let st = steps g (goal.at.loop-q-smaller g c).After-spread in
    let small : s * s ≤ largest_points = rw c.size.ensures at (rw c.points.ensures.value at c.points.ensures.bound) in
    Steps-smaller s c.in-Some.q largest_points c.loop-q.found.stones c.spread.new.found.stones c.loop-q.waiting
    c.next_stone.new.waiting c.spread.new.waiting st c.in-Some.ensures.some.1
    (on_board_more s _ _ _ _ c.loop-q.invariant.stones_on_board st.finds) small

-- a position that agrees with all that was asked agreed before the stone was visited
agreed : (g : Over) (c : After-spread g) (pos : BoardState) → g.V.View.agrees c.spread.new.board pos
    → g.V.View.agrees c.loop-q.board pos
agreed g c pos a = g.met.V.View.asks_agrees _ _ _ c.spread.ensures.looks.asked pos a

-- on it the point has the cell that was read first
own_is : (g : Over) (c : After-spread g) (pos : BoardState) → g.V.View.agrees c.spread.new.board pos
    → c.at-own.result ≡ cell_at (g.V.View.cells c.args.board.now pos) c.args.p
own_is g c pos a = grind (arith, agreed)

-- the neighbours of one more stone were found, or enough liberties were seen
flooded : (g : Over) (c : After-spread g) (pos : BoardState) → g.V.View.agrees c.spread.new.board pos
    → FloodsUnder g.E.Enemies.asked (g.V.View.rows c.args.board.now) (g.V.View.cells c.args.board.now pos)
    c.at-own.result c.args.p c.args.most (with_enemies c.spread.new.found (g.E.Enemies.met c.spread.new.enemies))
    c.spread.new.waiting
flooded g c pos a =
    let s = g.V.View.rows c.args.board.now in
    let cells = g.V.View.cells c.args.board.now pos in
    let i = c.loop-q.invariant in
    let over = i.over pos (agreed g c pos a) in
    let like = path_same s cells c.args.p (over.part c.in-Some.q (steps g c).waited) ∙ sym (own_is g c pos a) in
    let came = rw (g.met.V.View.asks_rows _ _ _ i.looks.asked, i.looks.same pos) at (c.spread.ensures.over pos a) in
    FloodsUnder-next g.E.Enemies.asked s cells c.at-own.result c.args.p c.in-Some.q c.args.most _ _ c.loop-q.waiting
    c.next_stone.new.waiting c.spread.new.waiting c.requires.on_board over (steps g c)
    (omega (arith, c.count.ensures.value, c.in-Some.ensures.some.3)) like (came like)

-- all that was asked for is close to the point's string
close : (g : Over) (c : After-spread g) (pos : BoardState) → g.V.View.agrees c.spread.new.board pos
    → g.V.View.asks c.args.board.now c.spread.new.board (neighbourhood_of (g.V.View.rows c.args.board.now)
    (g.V.View.cells c.args.board.now pos) (alone c.args.p))
close g c pos a =
    let i = c.loop-q.invariant in
    let stone = stone_from _ (λ e. cells_differ _ _ c.eq.result c.eq.ensures c.if-eq.false (own_is g c pos a ∙ e)) in
    let path = (i.over pos (agreed g c pos a)).part c.in-Some.q (steps g c).waited in
    g.met.V.View.asks_more _ _ _ _ (i.near pos (agreed g c pos a)) (g.met.V.View.asks_within _ _ _ _
    (rw (g.met.V.View.asks_rows _ _ _ i.looks.asked) at c.spread.ensures.looks.asked)
    (λ r h. close_around (g.V.View.rows c.args.board.now) (g.V.View.cells c.args.board.now pos) c.args.p c.in-Some.q r
    c.requires.on_board stone path h))

-- one more stone has its neighbours where they belong
pub loop-q-preserved : goal.loop-q-preserved
loop-q-preserved g c =
    let d = (goal.at.loop-q-preserved g c).After-spread in
    let one = Looks-within g.met.V.View.asks_within c.spread.ensures.looks (λ q h. refl) in
    let i = c.loop-q.invariant in
    let finds = (steps g d).finds in
    let enemies = rw (g.met.V.View.asks_rows _ _ _ i.looks.asked) at c.spread.ensures.enemies_on_board in
    record {
      looks = Looks-more g.met.V.View.asks_more i.looks one;
      more = Looks-more g.met.V.View.asks_more i.more one;
      over = flooded g d;
      near = close g d;
      enemies_on_board = λ r h. elim (enemies r h) [ inl before ↦ i.enemies_on_board r before | inr on ↦ on ];
      stones_on_board = on_board_more (g.V.View.rows c.args.board.now) _ _ _ _ i.stones_on_board finds;
      waits = Finds-within (g.V.View.rows c.args.board.now) _ _ _ _ finds
          (λ r h. i.waits r (waited_before c.in-Some.q r c.loop-q.waiting _ c.in-Some.ensures.some.2 h));
    }

-- no stone is left to visit, or more liberties than most were seen
pub returns-clause-over : goal.returns-clause-over
returns-clause-over g c = λ pos a.
    let a0 = g.met.V.View.asks_agrees _ _ _ c.loop-q.invariant.more.asked pos a in
    FloodsUnder-all g.E.Enemies.asked (g.V.View.rows c.args.board.now) (g.V.View.cells c.args.board.now pos)
    c.at-own.result c.args.p c.args.most c.loop-q.found (g.E.Enemies.met c.loop-q.enemies) c.loop-q.waiting
    c.requires.on_board (c.at-own.ensures.over pos a0) (cells_differ _ _ c.eq.result c.eq.ensures c.if-eq.false)
    (c.loop-q.invariant.over pos a) (λ few. c.in_default.ensures.none (omega (arith, few, c.count.ensures.value)))

-- and the enemies that were asked for have come
pub returns-clause-enemies : goal.returns-clause-enemies
returns-clause-enemies g c = λ pos a.
    let a0 = g.met.V.View.asks_agrees _ _ _ c.loop-q.invariant.more.asked pos a in
    FloodsUnder-enemies g.E.Enemies.asked (g.V.View.rows c.args.board.now) (g.V.View.cells c.args.board.now pos)
    c.at-own.result c.args.p c.args.most c.loop-q.found (g.E.Enemies.met c.loop-q.enemies) c.loop-q.waiting
    c.requires.on_board (c.at-own.ensures.over pos a0) (cells_differ _ _ c.eq.result c.eq.ensures c.if-eq.false)
    (c.loop-q.invariant.over pos a) (λ few. c.in_default.ensures.none (omega (arith, few, c.count.ensures.value)))
