use Rattle.std.proofs.Common.{◌≡◌, map}
use Rattle.std.specs.List.{range_with_len, All}
use Rattle.dfa_match.specs.Steps.{cursor_at}
use Rattle.dfa_match.specs.Walks.{IsStanding}
use Rattle.dfa_match.proofs.StandingWalks.{first_walk}
use Rattle.dfa_match.proofs.walks.first_walks.Given as goal

-- there is a walk from each point before, and the next one stands at the cursor
abbrev pub invariant-points : goal.invariant-points
invariant-points l = record {
  value : l.walks.items ≡ map (first_walk l.automaton l.fn.size) (range_with_len 0 l.anchor);
  standing : All (IsStanding l.automaton) l.walks.items;
  at : l.at ≡ cursor_at l.fn.size l.anchor;
}
