-- The play rests on its points, and what follows on the others.
use Rattle.std.proofs.Common.{◌≡◌, ◌∙◌, ap, arith}
use Rattle.std.specs.FinSet as set
use Rattle.read_rules.specs.Turns.{mover_of}
use Rattle.sure_proof.specs.Rests.{Points, play_rests_on}
use Rattle.sure_proof.proofs.ShownLemmas.{union_first, union_second}
use Rattle.sure_proof.proofs.GuardLemmas.{in_union}
use Rattle.sure_proof.proofs.BoardLemmas.{play_on}
use Rattle.sure_proof.proofs.AlikeLemmas.{play_alike}
use Rattle.sure_proof.proofs.play.play_shown.Goals as goal

-- these are points of the board
pub returns-clause-on_board : goal.returns-clause-on_board
returns-clause-on_board c = grind (arith, in_union, play_on)

-- the children are alike wherever a position agrees on them
pub returns-clause-shown : goal.returns-clause-shown
returns-clause-shown c = λ here sound same.
    let pos = c.args.pos.now in
    let after = c.args.after.now in
    let rests : Points = play_rests_on pos.size pos.cells (mover_of c.args.node.turn) after c.args.p in
    let is : c.join.new.self ≡ set.union rests after = c.join.ensures
    ∙ ap (λ S. set.union S after) (c.play_rests_on-points.ensures
    ∙ ap (λ k. play_rests_on pos.size pos.cells k after c.args.p) c.mover.ensures) in
    play_alike c.args.node pos here after c.args.p c.join.new.self c.size.ensures.position sound c.requires.on_board
    same
    (λ q its. ap (λ (S : Points). set.contains S q) is ∙ union_first q rests after its)
    (λ q its. ap (λ (S : Points). set.contains S q) is ∙ union_second q rests after its)
    c.requires.points
