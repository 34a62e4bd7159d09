-- What the helper `two_liberties` says.
use Rattle.std.specs.Prelude.{ℕ, nat_le, Bool, false, Result, Ok, Err, codes}
use Rattle.go_rules.specs.declared.Colour.{Colour}
use Rattle.go_rules.specs.declared.Illegal.{Illegal}
use Rattle.go_rules.specs.Position.{BoardState}
use Rattle.go_rules.specs.Play.{play}
use Rattle.go_rules.specs.Strings.{liberties}
use Rattle.helpers.specs.HelperStates.{HelperState}

-- the play is legal, and the string of the point has at least two liberties after the play
abbrev pub keeps_two : Result BoardState Illegal → ℕ → Bool
keeps_two (Ok next) at = nat_le 2 (liberties next.size next.cells at)
keeps_two (Err reason) at = false

-- the friend's play at the point is legal, and its string has at least two liberties after the play
unfoldable pub has_two_liberties : BoardState → ℕ → Colour → Bool
has_two_liberties board at friend = keeps_two (play board friend at) at

-- the helper `TwoLiberties`, asked this often
abbrev pub two_liberties : ℕ → HelperState
two_liberties calls = record { name = codes "two_liberties"; says = has_two_liberties; calls = calls }
