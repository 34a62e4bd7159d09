use Rattle.std.proofs.Common.{◌≡◌, ◌≤◌, ℕ, List, length, drop}
use Rattle.dfa_match.specs.Steps.{AreSteps}
use Rattle.dfa_match.specs.Walks.{after_opening, goes_on}
use Rattle.dfa_match.proofs.InPlace.{MapsInPlace}
use Rattle.dfa_match.proofs.walks.open_all.Given as goal

-- of the walks before those that go on behind their openings stand in front, and the others are as they were
abbrev pub invariant-walks : goal.invariant-walks
invariant-walks l = record {
  place : (steps : List ℕ) → AreSteps l.fn.t steps
      → MapsInPlace (after_opening l.shortcuts.openings.items steps l.padded.letters) goes_on l.fn.walks l.walks l.left
      l.index;
  behind : l.left ≤ l.index;
  long : length l.walks ≡ length l.fn.walks;
  rest : drop l.index l.walks ≡ drop l.index l.fn.walks;
}
