-- What helpers say does not change when they are asked, and readings keep their codes.
use Rattle.std.proofs.Common.{◌≡◌, ℕ, List, Result, Ok, Err, OnOk}
use Rattle.helpers.specs.HelperStates.{SlotState, says_yes}
use Rattle.helpers.specs.Agreement.{raised}
use Rattle.helpers.proofs.CallCounts.{says_yes-raised}

-- a list whose counts of calls rose says the same
pub raised-says : (times : List ℕ → ℕ) (slots : List SlotState) → says_yes (raised times slots) ≡ says_yes slots
raised-says times slots i name board at friend = says_yes-raised times slots name board at friend i

-- what follows from a fact of a result follows if it is a value
pub on_ok : {T E P Q : Type 0} (r : Result T E) → (P → Q) → OnOk r P → OnOk r Q
on_ok (Ok v) follows fact = follows fact
on_ok (Err e) follows fact = fact
