use Rattle.std.proofs.Common.{◌≡◌, ◌≤◌, ◌*◌, count_by, length}
use Rattle.match_rules.specs.Fits.{fits}
use Rattle.pattern_coverage.specs.Ends.{tries_among}
use Rattle.pattern_coverage.proofs.blocked.fits_among.Given as goal

-- how many tries under the transformations so far have the diagram fit
abbrev pub invariant-transforms : goal.invariant-transforms
invariant-transforms l = record {
  count : l.count ≡ count_by (λ try. fits l.p l.position l.friend try.0 try.1) (tries_among l.number l.points);
  few : l.count ≤ l.number * length l.points;
}
