-- What stands around the strings came, string by string.
use Rattle.std.proofs.Common.{◌*◌, arith}
use Rattle.std.specs.FinSet as set
use Rattle.go_rules.specs.Neighbourhood.{neighbourhood_of}
use Rattle.go_base.specs.Facts.{agrees_before}
use Rattle.go_base.specs.Views.{alone}
use Rattle.go_base.proofs.PointNeighbourhoods.{close_point}
use Rattle.trial_board.specs.Trials.{after}
use Rattle.trial_board.proofs.WalkLemmas.{Walked-none, Walked-next, on_agreed}
use Rattle.wider_rules.specs.Strings.{is_few_liberty, is_few_enemy}
use Rattle.wider_rules.proofs.GatherLemmas.{Gathers-none, Gathers-all}
use Rattle.wider_rules.proofs.StringLemmas.{AddsAround, GathersAround-next}
use Rattle.wider_moves.proofs.strings.around_strings.Goals as goal

-- nothing came, and all points are left
pub loop-q-init : goal.loop-q-init
loop-q-init g c = Walked-none (λ pos.
    let cells = (after pos c.args.board.now.moves).cells in
    record {
      liberties = Gathers-none (is_few_liberty c.args.least c.args.most pos.size cells) c.args.points.now c.copied-rest.result
          c.new.result c.copied-rest.ensures c.new.ensures;
      enemies = Gathers-none (is_few_enemy c.args.least c.args.most pos.size cells) c.args.points.now c.copied-rest.result
          c.new-2.result c.copied-rest.ensures c.new-2.ensures;
    })

-- what stands around the next string came, and its stones are taken off
pub loop-q-preserved : goal.loop-q-preserved
loop-q-preserved g c =
    let q = c.in-Some.q in
    let first = c.in-Some.ensures.some in
    let one = c.add_string-stones in
    let old = c.loop-q.found in
    let new = one.new.found in
    Walked-next (λ s b. neighbourhood_of s b.cells (alone q)) (λ s b. AddsAround c.args.least c.args.most s b.cells q one.result
    old.liberties new.liberties old.enemies new.enemies) c.loop-q.invariant
    (record {
      stays = one.ensures.stays;
      near = one.ensures.near;
      over = grind arith;
    })
    (λ pos a i. close_point pos.size (after pos c.args.board.now.moves).cells (set.contains c.args.points.now) q
    (i.liberties.within q first.2))
    (λ pos a i. GathersAround-next (on_agreed _ _ (g.met.L.Look.sized c.args.board.now.look) a
    (c.requires q (i.liberties.within q first.2))) i first.0 first.2 first.3 c.difference-rest.ensures)

-- no point is left: the liberties
pub returns-clause-liberties : goal.returns-clause-liberties
returns-clause-liberties g c = λ pos a.
    let i = c.loop-q.invariant in
    Gathers-all (is_few_liberty c.args.least c.args.most pos.size (after pos c.args.board.now.moves).cells) c.args.points.now
    c.loop-q.next (pos.size * pos.size) c.loop-q.rest c.loop-q.found.liberties (i.over pos a).liberties
    c.in_default.ensures.none
    (λ k h. on_agreed _ _ (g.met.L.Look.sized c.args.board.now.look) (agrees_before i.stays.grows a) (c.requires k h))

-- and the enemies
pub returns-clause-enemies : goal.returns-clause-enemies
returns-clause-enemies g c = λ pos a.
    let i = c.loop-q.invariant in
    Gathers-all (is_few_enemy c.args.least c.args.most pos.size (after pos c.args.board.now.moves).cells) c.args.points.now
    c.loop-q.next (pos.size * pos.size) c.loop-q.rest c.loop-q.found.enemies (i.over pos a).enemies
    c.in_default.ensures.none
    (λ k h. on_agreed _ _ (g.met.L.Look.sized c.args.board.now.look) (agrees_before i.stays.grows a) (c.requires k h))
