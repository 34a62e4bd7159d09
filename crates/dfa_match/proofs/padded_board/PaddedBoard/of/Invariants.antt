use Rattle.std.proofs.Common.{◌≡◌}
use Rattle.dfa_match.specs.SeenLetters.{IsPaddedBoardBelow}
use Rattle.dfa_match.specs.Steps.{cursor_at}
use Rattle.dfa_match.proofs.padded_board.PaddedBoard.of.Given as goal

-- the points before are seen, and the next one stands at the cursor
abbrev pub invariant-points : goal.invariant-points
invariant-points g l = record {
  shows : g.L.Look.shows l.look ≡ g.L.Look.shows l.fn.look;
  at : l.at ≡ cursor_at l.size l.p;
  padded : IsPaddedBoardBelow l.p (g.L.Look.shows l.fn.look) l.friend l.letters;
}
