use Rattle.std.proofs.Common.{◌≡◌, ◌++◌, take}
use Rattle.std.specs.List.{flat_map}
use Rattle.helpers.specs.HelperStates.{says_yes}
use Rattle.helpers.specs.Slots.{states_of}
use Rattle.match_engine.specs.Readings.{codes_of}
use Rattle.pattern_changes.specs.Changes.{changes_for}
use Rattle.pattern_changes.proofs.change.put_at.Given as goal

-- what changes for the friends so far, by readings and helpers that say what they said at first
abbrev pub invariant-friends : goal.invariant-friends
invariant-friends g l =
    let first = says_yes (states_of (λ z. (goal.Helper-dyn g z).state z.1) l.fn.helpers) in
    record {
      changes : l.changes.items ≡ l.fn.changes.items ++ flat_map
          (λ friend. changes_for (codes_of l.fn.readings) first l.old l.new l.moves l.position friend)
          (take l.friend-index l.friends);
      codes : codes_of l.readings ≡ codes_of l.fn.readings;
      advice : says_yes (states_of (λ z. (goal.Helper-dyn g z).state z.1) l.helpers) ≡ first;
    }
