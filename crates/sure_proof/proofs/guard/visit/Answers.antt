-- A point of the zone, by what stands there.
use Rattle.std.proofs.Common.{◌≡◌, ◌≢◌, ◌∙◌, ◌*◌, ◌<◌, ◌≤◌, sym, refl}
use Rattle.go_rules.specs.declared.Cell.TheVariants.{Empty}
use Rattle.go_rules.specs.Strings.{cell_at}
use Rattle.go_rules.proofs.Cells.{eq_is_same_cell}
use Rattle.go_rules.proofs.Paths.{same_cell-true, same_cell-from}
use Rattle.std.proofs.lemmas.Bool.{both_ways}
use Rattle.sure_proof.proofs.GuardLemmas.{gathered_same, step_off, step_empty, step_stale}
use Rattle.sure_proof.proofs.guard.visit.Goals as goal

-- it is beyond the board
pub returns-then-q-points : goal.returns-then-q-points
returns-then-q-points c = λ from before between.
    let off : c.args.pos.now.size * c.args.pos.now.size ≤ c.args.q
    = rw c.size.ensures.value at (rw c.points.ensures.value at c.if-q-points.true) in
    step_off c.args.pos.now.size c.args.pos.now.cells c.args.c c.args.zone.now from c.args.so_far.now.asked
    c.args.so_far.now.guard c.args.so_far.now.searched before c.args.q between off

-- it is empty
pub returns-then-eq : goal.returns-then-eq
returns-then-eq c = λ from before between.
    let s = c.args.pos.now.size in
    let cell : cell_at c.args.pos.now.cells c.args.q ≡ Empty = sym c.cell.ensures
    ∙ same_cell-true c.cell.result Empty (sym (eq_is_same_cell c.cell.result Empty) ∙ sym c.eq.ensures
    ∙ c.if-eq.true) in
    let low : c.args.q < s * s = rw c.size.ensures.value at (rw c.points.ensures.value at c.if-q-points.false) in
    gathered_same c.add.ensures refl refl
    (step_empty s c.args.pos.now.cells c.args.c c.args.zone.now from c.args.so_far.now.asked c.args.so_far.now.guard
    c.args.so_far.now.searched before c.args.q between low c.requires.member cell)

-- it holds no stone of the colour, or its string was searched
pub returns-else-is_fresh : goal.returns-else-is_fresh
returns-else-is_fresh c = λ from before between.
    let full : cell_at c.args.pos.now.cells c.args.q ≢ Empty = λ is. both_ways c.eq.result c.if-eq.false
    (c.eq.ensures ∙ eq_is_same_cell c.cell.result Empty ∙ same_cell-from c.cell.result Empty (c.cell.ensures ∙ is)) in
    step_stale c.args.pos.now.size c.args.pos.now.cells c.args.c c.args.zone.now from c.args.so_far.now.asked
    c.args.so_far.now.guard c.args.so_far.now.searched before c.args.q between full
    (sym c.is_fresh.ensures ∙ c.if-is_fresh.false)
