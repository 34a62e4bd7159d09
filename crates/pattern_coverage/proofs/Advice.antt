-- What helpers say does not change when they are asked.
use Rattle.std.proofs.Common.{◌≡◌, ℕ, Bool, true, false, cond, List, ap, ◌∙◌}
use Rattle.helpers.specs.HelperStates.{SlotState, says_yes}
use Rattle.helpers.specs.Agreement.{raised}
use Rattle.helpers.proofs.CallCounts.{says_yes-raised}

-- a list whose counts of calls rose says the same
pub raised-says : (times : List ℕ → ℕ) (slots : List SlotState) → says_yes (raised times slots) ≡ says_yes slots
raised-says times slots i name board at friend = says_yes-raised times slots name board at friend i

-- a list that was asked or was not says the same
pub says-kept : (b : Bool) (times : List ℕ → ℕ) (old new : List SlotState) → new ≡ cond b old (raised times old)
    → says_yes new ≡ says_yes old
says-kept true times old new is = ap says_yes is
says-kept false times old new is = ap says_yes is ∙ raised-says times old
