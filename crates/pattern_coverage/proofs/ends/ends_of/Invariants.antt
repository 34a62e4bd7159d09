use Rattle.std.proofs.Common.{◌≡◌, take, map}
use Rattle.helpers.specs.HelperStates.{says_yes}
use Rattle.helpers.specs.Slots.{states_of}
use Rattle.pattern_coverage.specs.Ends.{end_at}
use Rattle.pattern_coverage.proofs.ends.ends_of.Given as goal

-- the ends of the tries so far, by helpers that say what they said at first
abbrev pub invariant-tries : goal.invariant-tries
invariant-tries g l =
    let first = states_of (λ z. (goal.Helper-dyn g z).state z.1) l.fn.helpers in
    record {
      ends : l.ends.items ≡ map (end_at l.depths (says_yes first) l.patterns l.position l.friend)
          (take l.z-index l.found);
      same : says_yes (states_of (λ z. (goal.Helper-dyn g z).state z.1) l.helpers) ≡ says_yes first;
    }
