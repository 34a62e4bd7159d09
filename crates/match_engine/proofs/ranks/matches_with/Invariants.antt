use Rattle.std.proofs.Common.{◌≡◌, map, take}
use Rattle.match_engine.specs.Ranks.{match_with}
use Rattle.match_engine.proofs.ranks.matches_with.Given as goal

-- the matches with the ranks so far
abbrev pub invariant-loop-rank : goal.invariant-loop-rank
invariant-loop-rank l = l.found.items ≡ map match_with (take l.rank-index l.ranks)
