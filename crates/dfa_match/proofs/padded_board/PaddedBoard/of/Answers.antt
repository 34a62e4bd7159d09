use Rattle.std.proofs.Common.{◌≡◌, ℕ, ◌*◌, ◌<◌, ◌≤◌, subst, ap, ◌∙◌, arith}
use Rattle.go_rules.specs.Board.{largest_size}
use Rattle.go_rules.specs.Position.{BoardState}
use Rattle.go_rules.specs.Strings.{cell_at}
use Rattle.dfa_match.specs.SeenLetters.{seen_of}
use Rattle.dfa_match.specs.Steps.{cursor_at, last_corner}
use Rattle.dfa_match.proofs.Cursors.{cursor_place, cursor_corner}
use Rattle.dfa_match.proofs.PaddedBoard.{padded_none, padded_more, row_low, column_low}
use Rattle.dfa_match.proofs.padded_board.PaddedBoard.of.Given.{Over}
use Rattle.dfa_match.proofs.padded_board.PaddedBoard.of.Goals.{In-points}
use Rattle.dfa_match.proofs.padded_board.PaddedBoard.of.Goals as goal

-- before the first point each place is off the board, and the cursor is that of the first point
pub points-init : goal.points-init
points-init g c =
    grind (
      arith,
      padded_none (g.L.Look.shows c.args.look.now) c.args.friend c.no_letters-letters.result c.no_letters-letters.ensures,
    )

-- the point is one of the board
on : (g : Over) (c : In-points g) → c.points.p < c.size-size.result * c.size-size.result
on g c = subst (λ n. c.points.p < n) c.points-p-end.ensures.value c.points-test.true

-- the square around it lies on the padded board
square_low : (g : Over) (c : In-points g) → c.points.at.corner ≤ last_corner
square_low g c = grind (arith, cursor_corner, on)

-- so the next cursor may be asked for
pub next-at-requires-clause-corner : goal.next-at-requires-clause-corner
next-at-requires-clause-corner g c = square_low g (goal.at.next-at-requires-clause-corner g c).In-points

-- and the point itself lies there
pub bounds-letters-at : goal.bounds-letters-at
bounds-letters-at g c = let low = square_low g (goal.at.bounds-letters-at g c).In-points in omega (arith, low)

-- one point more was looked at
pub points-preserved : goal.points-preserved
points-preserved g c =
    let here = (goal.at.points-preserved g c).In-points in
    let board : BoardState = g.L.Look.shows c.args.look.now in
    let p : ℕ = c.points.p in
    let same : c.size-size.result ≡ board.size = c.size-size.ensures in
    let some : 0 < board.size = omega (arith, same, c.get.ensures.at_least) in
    let most : board.size ≤ largest_size = omega (arith, same, c.get.ensures.at_most) in
    let few : p < board.size * board.size = subst (λ n. p < n * n) same (on g here) in
    let low = square_low g here in
    let cursor = c.points.invariant.at ∙ ap (λ s. cursor_at s p) same in
    record {
      shows = c.sight.ensures.same ∙ c.points.invariant.shows;
      at = c.next-at.ensures p c.points.invariant.at;
      padded = padded_more board c.args.friend p _ c.points.letters c.sight.result c.points.invariant.padded some few
          (cursor_place board.size p c.points.at cursor) (omega (arith, low)) (row_low board.size p some most few)
          (column_low board.size p some most) (c.sight.ensures.value
          ∙ ap (λ (b : BoardState). seen_of c.args.friend (cell_at b.cells p)) c.points.invariant.shows);
    }
