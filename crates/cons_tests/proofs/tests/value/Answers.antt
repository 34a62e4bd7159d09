-- The value of a text.
use Rattle.cons_eval.proofs.Callers.{all_placed}
use Rattle.cons_tests.specs.LibertyCodes.{spot, code_by_liberties}
use Rattle.cons_tests.proofs.Spots.{spots_on_board}
use Rattle.cons_tests.proofs.tests.value.Goals as goal

-- the points of the star and of the labels are on the board
pub eval-requires-clause-placed : goal.eval-requires-clause-placed
eval-requires-clause-placed c =
    let t = c.args.env.now in
    all_placed
    (record {
      position = t.position;
      friend = t.friend;
      point = spot t.star t.a t.b;
      code = code_by_liberties;
    })
    c.in_ok-expr.expr
    (λ a. spots_on_board t.position.size t.star t.a t.b t.star_on_board t.a_on_board t.b_on_board a)
