use Rattle.std.proofs.Common.{◌≡◌, slice_get, take}
use Rattle.helpers.specs.HelperStates.{says_yes}
use Rattle.helpers.specs.Slots.{states_of}
use Rattle.match_engine.specs.AutomatonMatches.{is_agreed_at}
use Rattle.match_engine.specs.HelperCalls.{after_matches}
use Rattle.match_engine.proofs.AllowedMatches.{KeepsFirst}
use Rattle.match_engine.proofs.agreeing.keep_agreed.Given as goal

-- of those that were asked about the agreed ones are kept, and the calls are those about them
abbrev pub invariant-matches : goal.invariant-matches
invariant-matches g l =
    let slots = states_of (λ z. (goal.Helper-dyn g z).state z.1) l.fn.helpers in
    record {
      kept : KeepsFirst (λ z. is_agreed_at (says_yes slots) l.position l.friend (slice_get l.patterns z.pattern) z)
          l.fn.found.items l.found.items l.kept l.next;
      calls : states_of (λ z. (goal.Helper-dyn g z).state z.1) l.helpers
          ≡ after_matches slots l.patterns (take l.next l.fn.found.items) l.position l.friend;
    }
