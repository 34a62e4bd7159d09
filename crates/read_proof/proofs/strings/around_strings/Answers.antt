-- What stands around the strings came, string by string.
use Rattle.std.proofs.Common.{◌*◌}
use Rattle.wider_rules.specs.Strings.{is_few_liberty, is_few_enemy}
use Rattle.wider_rules.proofs.GatherLemmas.{Gathers-none, Gathers-all}
use Rattle.wider_rules.proofs.StringLemmas.{AddsAround, GathersAround-next}
use Rattle.read_proof.proofs.strings.around_strings.Goals as goal

-- nothing came, and all points are left
pub loop-q-init : goal.loop-q-init
loop-q-init c =
    let pos = c.args.pos.now in
    let points = c.args.points.now in
    let all = c.copied-rest in
    record {
      liberties = Gathers-none (is_few_liberty c.args.least c.args.most pos.size pos.cells) points all.result c.new.result
          all.ensures c.new.ensures;
      enemies = Gathers-none (is_few_enemy c.args.least c.args.most pos.size pos.cells) points all.result c.new-2.result
          all.ensures c.new-2.ensures;
    }

-- what stands around the next string came, and its stones are taken off
pub loop-q-preserved : goal.loop-q-preserved
loop-q-preserved c =
    let q = c.in-Some.q in
    let first = c.in-Some.ensures.some in
    let its = c.add_string-stones in
    let old = c.loop-q.found in
    let one : AddsAround c.args.least c.args.most c.args.pos.now.size c.args.pos.now.cells q its.result old.liberties
    its.new.found.liberties old.enemies its.new.found.enemies =
    record { its = its.ensures.stones; liberties = its.ensures.liberties; enemies = its.ensures.enemies } in
    GathersAround-next (c.requires q (c.loop-q.invariant.liberties.within q first.2)) c.loop-q.invariant first.0
    first.2 first.3 c.difference-rest.ensures one

-- no point is left: the liberties
pub returns-clause-liberties : goal.returns-clause-liberties
returns-clause-liberties c =
    let pos = c.args.pos.now in
    Gathers-all (is_few_liberty c.args.least c.args.most pos.size pos.cells) c.args.points.now c.loop-q.next (pos.size * pos.size)
    c.loop-q.rest c.loop-q.found.liberties c.loop-q.invariant.liberties c.in_default.ensures.none c.requires

-- and the enemies
pub returns-clause-enemies : goal.returns-clause-enemies
returns-clause-enemies c =
    let pos = c.args.pos.now in
    Gathers-all (is_few_enemy c.args.least c.args.most pos.size pos.cells) c.args.points.now c.loop-q.next (pos.size * pos.size)
    c.loop-q.rest c.loop-q.found.enemies c.loop-q.invariant.enemies c.in_default.ensures.none c.requires
