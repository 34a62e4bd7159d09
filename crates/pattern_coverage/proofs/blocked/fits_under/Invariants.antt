use Rattle.std.proofs.Common.{◌≡◌, take, count_by}
use Rattle.match_rules.specs.Fits.{fits}
use Rattle.pattern_coverage.proofs.blocked.fits_under.Given as goal

-- at how many of the points so far the diagram fits
abbrev pub invariant-points : goal.invariant-points
invariant-points l = l.count ≡ count_by (fits l.p l.position l.friend l.t) (take l.at-index l.points)
