use Rattle.std.proofs.Common.{◌≡◌, map, take}
use Rattle.dfa_match.specs.Rings.{ring_of}
use Rattle.dfa_match.proofs.rings.rings.Given as goal

-- the rings of the walks before were read
abbrev pub invariant-walks : goal.invariant-walks
invariant-walks l = record {
  read : l.rings.items ≡ map (ring_of l.padded.letters) (take l.walk-index l.walks);
}
