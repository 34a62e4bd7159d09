-- Helpers as contracts see them, and how a list of them changes when a helper is asked, switched off or taken out.
use Rattle.std.specs.Prelude.{ℕ, ◌+◌, ◌-◌, ◌^◌, min, Bool, false, ◌&&◌, List, [], ◌∷◌, Option, Some, None, option_map}
use Rattle.std.specs.Prelude.{find, if◌then◌else◌}
use Rattle.std.specs.Str.{bytes_eq}
use Rattle.go_rules.specs.declared.Colour.{Colour}
use Rattle.go_rules.specs.Position.{BoardState}

-- what a helper says of a position, a point and a colour
abbrev pub Meaning : Type 0
Meaning = BoardState → ℕ → Colour → Bool

-- what contracts see of a helper: its name, its meaning, and how often it was asked
pub record HelperState : Type 0 where
  pub name : List ℕ
  pub says : Meaning
  pub calls : ℕ

-- a place of a list: its helper, and whether the helper is on
pub record SlotState : Type 0 where
  pub helper : HelperState
  pub on : Bool

-- the count plus one, but at most the greatest value of a u64
abbrev pub one_more : ℕ → ℕ
one_more n = min (n + 1) (2 ^ 64 - 1)

-- a helper after it was asked once: its name and its meaning do not change
abbrev pub asked : HelperState → HelperState
asked h = record h { calls = one_more h.calls }

-- the helper at place s has this name
abbrev pub has_name : List ℕ → SlotState → Bool
has_name name s = bytes_eq s.helper.name name

-- the list in which the first element that passes the test is changed
abbrev pub change_first : {X : Type 0} → (X → Bool) → (X → X) → List X → List X
change_first test change [] = []
change_first test change (x ∷ xs) = if test x then change x ∷ xs else x ∷ change_first test change xs

-- the list without its first element that passes the test
abbrev pub remove_first : {X : Type 0} → (X → Bool) → List X → List X
remove_first test [] = []
remove_first test (x ∷ xs) = if test x then xs else x ∷ remove_first test xs

-- the helper that a name means: the first that has the name, if there is one
abbrev pub named : List ℕ → List SlotState → Option SlotState
named name slots = find (has_name name) slots

-- the helper at this place is on and says yes; a helper that is off, or that is missing, says no
abbrev pub slot_says : Option SlotState → BoardState → ℕ → Colour → Bool
slot_says None board at friend = false
slot_says (Some s) board at friend = s.on && s.helper.says board at friend

-- the list has a helper of this name, and the first of them is on and says yes
abbrev pub says_yes : List SlotState → List ℕ → BoardState → ℕ → Colour → Bool
says_yes slots name board at friend = slot_says (named name slots) board at friend

-- a place of a list after its helper was asked; a helper that is off is not asked
abbrev pub slot_asked : SlotState → SlotState
slot_asked s = if s.on then record s { helper = asked s.helper } else s

-- the list after the helper of this name was asked, if there is one and it is on
abbrev pub after_asking : List ℕ → List SlotState → List SlotState
after_asking name slots = change_first (has_name name) slot_asked slots

-- the list after the helper of this name was switched off, if there is one
abbrev pub after_off : List ℕ → List SlotState → List SlotState
after_off name slots = change_first (has_name name) (λ s. record s { on = false }) slots

-- the list after the helper of this name was taken out, if there is one
abbrev pub after_remove : List ℕ → List SlotState → List SlotState
after_remove name slots = remove_first (has_name name) slots

-- how often the helper of this name was asked, if there is one
abbrev pub calls_of : List ℕ → List SlotState → Option ℕ
calls_of name slots = option_map (λ s. s.helper.calls) (named name slots)
