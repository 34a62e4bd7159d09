use Rattle.std.proofs.Common.{◌<◌, length, arith, sym, ap, ◌∙◌}
use Rattle.dfa_match.specs.declared.walks.Walk.{Walk}
use Rattle.dfa_match.specs.Walks.{goes_on}
use Rattle.std.proofs.lemmas.List.{get_or_default}
use Rattle.dfa_match.proofs.InPlace.{FiltersInPlace-count}
use Rattle.dfa_match.proofs.walks.move_to_front.Goals as goal

-- one walk more was looked at
pub walks-preserved : goal.walks-preserved
walks-preserved c =
    let none : Walk = record { entry = 0; letters = 0; corner = 0 } in
    let low : c.walks.index < length c.walks.walks = omega (arith, c.walks-test.true, c.walks.auto.walks) in
    record {
      kept = FiltersInPlace-count c.goes_on.result c.walks.invariant.kept low
          (ap goes_on c.set.ensures ∙ sym c.goes_on.ensures)
          (c.set.ensures ∙ get_or_default c.walks.walks c.walks.index none c.set.new.self low);
    }
