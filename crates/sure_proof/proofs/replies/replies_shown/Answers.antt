-- The replies that the zone asks for, guarded by the zone and its guard.
use Rattle.std.proofs.Common.{◌≡◌, ◌∙◌, ap, sym, subst, arith}
use Rattle.std.specs.FinSet as set
use Rattle.go_rules.specs.Position.{other}
use Rattle.read_rules.specs.Turns.{mover_of}
use Rattle.sure_proof.specs.Alike.{IsGuarded}
use Rattle.sure_proof.specs.Rests.{Points, guard_of, asked_of}
use Rattle.sure_proof.proofs.ShownLemmas.{union_first, union_second}
use Rattle.sure_proof.proofs.GuardLemmas.{in_union}
use Rattle.sure_proof.proofs.BoardLemmas.{asked_on, guard_on}
use Rattle.sure_proof.proofs.AlikeLemmas.{zone_is_guarded}
use Rattle.sure_proof.proofs.replies.replies_shown.Goals as goal

-- the replies are points of the board
pub returns-clause-on_board : goal.returns-clause-on_board
returns-clause-on_board c = grind (arith, asked_on)

-- they are all that have to be read
pub returns-clause-shown : goal.returns-clause-shown
returns-clause-shown c = λ here sound same.
    let pos = c.args.pos.now in
    let zone = c.args.zone.now in
    let enemy = other (mover_of c.args.node.turn) in
    let enemy_is : c.other.result ≡ enemy = c.other.ensures ∙ ap other c.mover.ensures in
    let guard : Points = guard_of pos.size pos.cells enemy zone in
    let is : c.join.new.self ≡ set.union guard zone = c.join.ensures ∙ ap (λ S. set.union S zone)
    (c.guard_zone-asked.ensures.guard ∙ ap (λ k. guard_of pos.size pos.cells k zone) enemy_is) in
    let asked : c.guard_zone-asked.result.asked ≡ asked_of pos.size pos.cells enemy zone
    = c.guard_zone-asked.ensures.asked ∙ ap (λ k. asked_of pos.size pos.cells k zone) enemy_is in
    subst (λ (S : Points). IsGuarded c.args.node (set.contains zone) here (set.contains S)) (sym asked)
    (zone_is_guarded c.args.node pos here zone c.join.new.self same
    (λ q its. ap (λ (S : Points). set.contains S q) is ∙ union_second q guard zone its)
    (λ q its. ap (λ (S : Points). set.contains S q) is ∙ union_first q guard zone its)
    c.requires.on_board)

-- the points on which this rests are on the board
pub returns-clause-zone : goal.returns-clause-zone
returns-clause-zone c = grind (arith, in_union, guard_on)
