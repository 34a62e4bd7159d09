-- What a walk over the points of a zone has gathered: the replies that these points ask for, and the points that guard
-- them. Each string is searched once, though several of its stones may be in the zone.
use Rattle.std.specs.Prelude.{◌≡◌, ℕ, ◌*◌, ◌<◌, true, List}
use Rattle.std.specs.FinSet as set
use Rattle.go_rules.specs.declared.Cell.{Cell}
use Rattle.go_rules.specs.declared.Colour.{Colour}
use Rattle.sure_proof.specs.Rests.{Points, guard_at, guard_of, asked_at, asked_of}

-- each point of the first set is one of the second
abbrev pub IsWithin : Points → Points → Type 0
IsWithin S T = (q : ℕ) → set.contains S q ≡ true → set.contains T q ≡ true

-- what the point q of Z asks for is in asked, and what guards it is in guard
pub record IsServed (s : ℕ) (cells : List Cell) (c : Colour) (Z asked guard : Points) (q : ℕ) : Type 0 where
  pub asks : IsWithin (asked_at s cells c Z q) asked
  pub guards : IsWithin (guard_at s cells c Z q) guard

-- asked and guard have nothing but what Z asks for and what guards it. They have all that the searched stones and the
-- points of Z below from ask for, and all that guards these
pub record IsGathered (s : ℕ) (cells : List Cell) (c : Colour) (Z : Points) (from : ℕ) (asked guard searched : Points)
    : Type 0 where
  pub asked_right : IsWithin asked (asked_of s cells c Z)
  pub guard_right : IsWithin guard (guard_of s cells c Z)
  pub visited : (q : ℕ) → q < from → q < s * s → set.contains Z q ≡ true → IsServed s cells c Z asked guard q
  pub of_searched : (q : ℕ) → set.contains searched q ≡ true → IsServed s cells c Z asked guard q
