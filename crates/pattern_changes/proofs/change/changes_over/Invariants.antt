use Rattle.std.proofs.Common.{◌≡◌, take}
use Rattle.std.specs.List.{flat_map, enumerate_from}
use Rattle.helpers.specs.HelperStates.{says_yes}
use Rattle.helpers.specs.Slots.{states_of}
use Rattle.match_engine.specs.Readings.{codes_of}
use Rattle.pattern_changes.specs.Changes.{changes_at}
use Rattle.pattern_changes.proofs.change.changes_over.Given as goal

-- what changes on the positions so far, by readings and helpers that say what they said at first
abbrev pub invariant-positions : goal.invariant-positions
invariant-positions g l =
    let first = says_yes (states_of (λ z. (goal.Helper-dyn g z).state z.1) l.fn.helpers) in
    record {
      changes : l.changes.items ≡ flat_map (changes_at (codes_of l.fn.readings) first l.old l.new l.friends)
          (enumerate_from 0 (take l.moves l.positions));
      codes : codes_of l.readings ≡ codes_of l.fn.readings;
      advice : says_yes (states_of (λ z. (goal.Helper-dyn g z).state z.1) l.helpers) ≡ first;
    }
