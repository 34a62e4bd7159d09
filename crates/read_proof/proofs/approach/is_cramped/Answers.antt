use Rattle.std.proofs.Common.{ap, sym, not, ◌∙◌, ◌&&◌}
use Rattle.read_proof.proofs.ApproachLemmas.{cramped_is}
use Rattle.read_proof.proofs.approach.is_cramped.Goals as goal

-- few points are reached, and it rests on what is taken
pub returns-then-is_no_room : goal.returns-then-is_no_room
returns-then-is_no_room c =
    let takes = c.takes_some-takes in
    ap (λ b. b && not takes.result) (sym c.if-is_no_room.true)
    ∙ cramped_is c.args.pos.now.size c.args.pos.now.cells c.args.own c.args.l c.count.result c.is_no_room.result
    takes.result c.reached.result c.reached.ensures c.count.ensures.value c.is_no_room.ensures takes.ensures

-- more are
pub returns-else-is_no_room : goal.returns-else-is_no_room
returns-else-is_no_room c =
    let takes = c.takes_some-takes in
    c.if-is_no_room.false
    ∙ ap (λ b. b && not takes.result) (sym c.if-is_no_room.false)
    ∙ cramped_is c.args.pos.now.size c.args.pos.now.cells c.args.own c.args.l c.count.result c.is_no_room.result
    takes.result c.reached.result c.reached.ensures c.count.ensures.value c.is_no_room.ensures takes.ensures
