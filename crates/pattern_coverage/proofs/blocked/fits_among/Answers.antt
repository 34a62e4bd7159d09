use Rattle.std.proofs.Common.{◌<◌, ℕ, ap, ◌∙◌, arith, count_by}
use Rattle.go_rules.specs.Transform.{transformations}
use Rattle.match_rules.specs.Fits.{fits}
use Rattle.match_engine.proofs.ByAutomaton.{count_within}
use Rattle.pattern_coverage.proofs.BlockedTries.{fits-next}
use Rattle.pattern_coverage.proofs.blocked.fits_among.Goals as goal
use Rattle.pattern_coverage.proofs.blocked.fits_among.Goals.{in-Some, in_default}

-- the tries under the next transformation are added
pub transforms-preserved : goal.transforms-preserved
transforms-preserved c =
    let p = c.args.p.now in
    let board = c.args.position.now in
    let friend = c.args.friend in
    let low : c.transforms.number < transformations =
    omega (arith, c.transforms-test.true, c.mark_count-number-end.ensures, count_within p.mark) in
    elim c.match-new.branch [
      | in-Some w ↦
          let next = fits-next (λ (try : ℕ × ℕ). fits p board friend try.0 try.1) c.transforms.number
          c.args.points.now c.transforms.count w.fits_under-count.result c.match-new.count
          c.transforms.invariant.count c.transforms.invariant.few
          (w.fits_under-count.ensures
          ∙ ap (λ t. count_by (fits p board friend t) c.args.points.now) w.in-Some.ensures.value)
          w.count-is in
          record { count = next.0; few = next.1 }
      | in_default w ↦ absurd (let there = w.in_default.ensures.valid.1 low in cc)
    ]
