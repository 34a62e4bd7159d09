use Rattle.std.proofs.Common.{◌≡◌, take, map, slice_get}
use Rattle.std.specs.List.{filter_map, All}
use Rattle.go_rules.specs.Play.{is_legal}
use Rattle.match_engine.specs.Found.{match_from}
use Rattle.match_engine.specs.PointAnswers.{Knows}
use Rattle.match_engine.specs.Ranks.{rank_of, match_with}
use Rattle.match_engine.proofs.finder.ranks_among.Given as goal

-- the ranks of the matches that the hits so far are, and where the friend may play
abbrev pub invariant-loop-hit : goal.invariant-loop-hit
invariant-loop-hit l = record {
  found : map match_with l.ranks.items ≡ filter_map
      (λ hit. match_from (slice_get l.patterns hit.pattern) l.position l.friend hit) (take l.hit-index l.hits);
  ranks : All (λ n. rank_of (match_with n) ≡ n) l.ranks.items;
  knows : Knows (λ q. is_legal l.position l.friend q) l.legal;
}
