-- One more member came where it reaches across.
use Rattle.std.proofs.Common.{◌≡◌, ℕ, ◌<◌, ◌≤◌, false, ◌∙◌, arith}
use Rattle.read_connect.specs.Stages.{reaches_among}
use Rattle.go_base.proofs.FilteredSets.{none_apart, added_apart, skipped_apart, all_apart}
use Rattle.read_connect.proofs.StageLemmas.{none_reaches, reach_test}
use Rattle.read_connect.proofs.sets.reaching.Goals as goal
use Rattle.read_connect.proofs.sets.reaching.Goals.{then-reaches, else-reaches}

-- the new set is empty, and no member stands below point 0
pub loop-p-init : goal.loop-p-init
loop-p-init c = none_apart c.new-found.result _ c.new-found.ensures

-- the next member comes where it reaches across, and is left out if it does not
pub loop-p-preserved : goal.loop-p-preserved
loop-p-preserved c =
    let first = c.in-Some.ensures.some in
    let s = c.args.size in
    let points = c.args.points.now in
    let others = c.args.others.now in
    let test = reaches_among s points others in
    let tested = reach_test s points others c.in-Some.p c.count-only.result c.reaches.result c.reaches.ensures
    c.count-only.ensures.value first.2 in
    let between : (k : ℕ) → c.loop-p.next ≤ k → k < c.in-Some.p → test k ≡ false =
    λ k lo hi. none_reaches s points others k (first.3 k lo hi) in
    elim c.if-reaches.branch [
      | then-reaches w ↦ rw w.found-is
          (added_apart test c.loop-p.next c.in-Some.p c.loop-p.found w.add.new.self c.loop-p.invariant first.0
          between (tested ∙ w.if-reaches.true) w.add.ensures)
      | else-reaches w ↦ rw w.found-is
          (skipped_apart test c.loop-p.next c.in-Some.p c.loop-p.found c.loop-p.invariant first.0
          between (tested ∙ w.if-reaches.false))
    ]

-- no member is left, and each that reaches across has come
pub returns : goal.returns
returns c = grind (arith, all_apart, none_reaches)
