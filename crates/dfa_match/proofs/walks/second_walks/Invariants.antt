use Rattle.std.proofs.Common.{◌≡◌, map, filter, take}
use Rattle.dfa_match.specs.Walks.{after_anchor, goes_on}
use Rattle.dfa_match.proofs.walks.second_walks.Given as goal

-- of the walks before those that go on were gathered
abbrev pub invariant-walks : goal.invariant-walks
invariant-walks l = record {
  gathered : l.walks.items ≡ filter goes_on
      (map (after_anchor l.automaton l.padded.letters) (take l.walk-index l.first));
}
