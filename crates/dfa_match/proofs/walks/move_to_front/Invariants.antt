use Rattle.std.proofs.lemmas.List.Filters.{FiltersInPlace}
use Rattle.dfa_match.specs.Walks.{goes_on}
use Rattle.dfa_match.proofs.walks.move_to_front.Given as goal

-- of the walks before those that go on stand in front
abbrev pub invariant-walks : goal.invariant-walks
invariant-walks l = record {
  kept : FiltersInPlace goes_on l.fn.walks l.walks l.left l.index;
}
