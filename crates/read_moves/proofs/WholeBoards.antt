-- Trial moves leave a whole board.
use Rattle.std.proofs.Common.{◌≡◌, ℕ, ◌*◌, Bool, true, false, cond, [], ◌∷◌, length, Result, Ok, Err, refl, sym, subst}
use Rattle.go_rules.specs.declared.Colour.{Colour}
use Rattle.go_rules.specs.declared.Illegal.{Illegal}
use Rattle.go_rules.specs.Position.{BoardState}
use Rattle.go_rules.specs.Play.{play, play_free}
use Rattle.go_rules.proofs.Plays.{length_after}
use Rattle.go_rules.proofs.PlayLaws.{done_state, play_done}
use Rattle.go_rules.proofs.Results.{put_on}
use Rattle.trial_board.specs.declared.moves.TrialMove.{TrialMove}
use Rattle.trial_board.specs.declared.moves.TrialMove.TheVariants.{Pass, Play}
use Rattle.trial_board.specs.Trials.{given, after}
use Rattle.std.proofs.Common.{List, arith}

-- the cells after trial moves are those of the whole board
abbrev pub IsWhole : BoardState → Type 0
IsWhole pos = length pos.cells ≡ pos.size * pos.size

-- a play that is refused leaves the board, and one that is made gives a whole one
whole_given : (pos : BoardState) (r : Result BoardState Illegal) → ((new : BoardState) → r ≡ Ok new → IsWhole new)
    → IsWhole pos → IsWhole (given pos r)
whole_given pos (Ok new) h w = h new refl
whole_given pos (Err e) h w = w

-- a play with no regard to the ban gives a whole board
whole_free : (pos : BoardState) (c : Colour) (p : ℕ) (new : BoardState) → play_free pos c p ≡ Ok new → IsWhole new
whole_free pos c p new e = subst IsWhole (sym (done_state pos c p new e).1) (length_after pos.size (put_on pos c p) c)

-- and so does a play, with its ban dropped or not
whole_play : (pos : BoardState) (c : Colour) (p : ℕ) (dropped : Bool) → IsWhole pos
    → IsWhole (given pos (cond dropped (play_free pos c p) (play pos c p)))
whole_play pos c p true w = whole_given pos (play_free pos c p) (whole_free pos c p) w
whole_play pos c p false w = grind (arith, whole_given, whole_free, play_done)

-- the board is whole after trial moves on a whole one
pub whole_after : (pos : BoardState) (ms : List TrialMove) → IsWhole pos → IsWhole (after pos ms)
whole_after pos [] w = w
whole_after pos (Pass ∷ ms) w = whole_after pos ms w
whole_after pos (Play m ∷ ms) w = whole_play (after pos ms) m.colour m.at m.dropped (whole_after pos ms w)
