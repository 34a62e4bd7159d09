-- Which helpers are asked for a list of names in turn, until one says no, and how often.
use Rattle.std.specs.Prelude.{◌≡◌, ℕ, zero, suc, Bool, false, List, [], ◌∷◌, Option, Some, None, if◌then◌else◌}
use Rattle.std.specs.List.{list_all, list_any}
use Rattle.std.specs.Str.{bytes_eq}
use Rattle.go_rules.specs.declared.Colour.{Colour}
use Rattle.go_rules.specs.Position.{BoardState}
use Rattle.helpers.specs.HelperStates.{HelperState, SlotState, asked, has_name, named, says_yes}

-- there is a helper at this place, and it is on
abbrev pub slot_on : Option SlotState → Bool
slot_on None = false
slot_on (Some s) = s.on

-- the list has a helper of this name, and the first of them is on
abbrev pub is_on : List SlotState → List ℕ → Bool
is_on slots name = slot_on (named name slots)

-- how often the helper of `name` is asked when these names are asked in turn; on and says tell for each name whether
-- its helper is on and whether it says yes. The helper is asked once, at the first place of its name, if it is on and
-- the helper of every name before it says yes, and otherwise never
abbrev pub times_asked : (List ℕ → Bool) → (List ℕ → Bool) → List (List ℕ) → List ℕ → ℕ
times_asked on says [] name = 0
times_asked on says (m ∷ ms) name = if bytes_eq m name then (if on m then 1 else 0)
    else (if says m then times_asked on says ms name else 0)

-- the helpers of all these names say yes to a play of friend at `at`
abbrev pub all_say_yes : List SlotState → List (List ℕ) → BoardState → ℕ → Colour → Bool
all_say_yes slots names board at friend = list_all (λ n. says_yes slots n board at friend) names

-- how often the helper of each name is asked when the helpers of these names are asked about a play
abbrev pub asks_of : List SlotState → List (List ℕ) → BoardState → ℕ → Colour → List ℕ → ℕ
asks_of slots names board at friend = times_asked (is_on slots) (λ n. says_yes slots n board at friend) names

-- a helper after it was asked n times
abbrev pub asked_often : ℕ → HelperState → HelperState
asked_often zero h = h
asked_often (suc n) h = asked (asked_often n h)

-- a place of a list after its helper was asked n times
abbrev pub slot_asked_often : ℕ → SlotState → SlotState
slot_asked_often n s = record s { helper = asked_often n s.helper }

-- the places `slots`, which follow the places `before`, after the helper of each name was asked as often as times says;
-- a helper that shares its name with an earlier one is never asked
abbrev pub raised_from : List SlotState → (List ℕ → ℕ) → List SlotState → List SlotState
raised_from before times [] = []
raised_from before times (s ∷ slots) =
    (if list_any (has_name s.helper.name) before then s else slot_asked_often (times s.helper.name) s)
    ∷ raised_from (s ∷ before) times slots

-- a list of places after the helper of each name was asked as often as times says
abbrev pub raised : (List ℕ → ℕ) → List SlotState → List SlotState
raised times slots = raised_from [] times slots

-- the helpers of these names were asked in turn: result is their answer, and after is the list of places afterwards
pub record IsAskedFor (slots : List SlotState) (names : List (List ℕ)) (board : BoardState) (at : ℕ) (friend : Colour)
    (result : Bool) (after : List SlotState) : Type 0 where
  pub answer : result ≡ all_say_yes slots names board at friend
  pub calls : after ≡ raised (asks_of slots names board at friend) slots
