-- What is kept of a trial move, and how it is written in few bytes.
use Rattle.std.specs.Prelude.{◌≡◌, ℕ, Bool, true, false, Option, Some, None, refl}
use Rattle.std.proofs.Common.{ap, ◌∙◌}
use Rattle.go_rules.specs.declared.Colour.{Colour}
use Rattle.go_rules.specs.declared.Colour.TheVariants.{Black, White}
use Rattle.trial_board.specs.declared.moves.TrialMove.{TrialMove}
use Rattle.trial_board.specs.declared.moves.TrialMove.TheVariants.{Pass, Play}
use Rattle.trial_board.specs.declared.undo.Mover.{Mover}
use Rattle.trial_board.specs.declared.undo.Mover.TheVariants.{Nobody, Black as by_black, White as by_white}
use Rattle.trial_board.specs.declared.undo.Mover.TheVariants.{BlackAgainstBan, WhiteAgainstBan}
use Rattle.trial_board.specs.declared.undo.Banned.{Banned}
use Rattle.trial_board.specs.declared.undo.Banned.TheVariants.{Nobody as no_one}
use Rattle.trial_board.specs.declared.undo.Banned.TheVariants.{Black as bans_black, White as bans_white}
use Rattle.trial_board.specs.declared.undo.Undo.TheInside.{Inside}

-- a move, the ban before it, where the points of the stones that it took begin in the row, and how many they are
pub record UndoableMove : Type 0 where
  pub made : TrialMove
  pub ban : Option (ℕ × Colour)
  pub first : ℕ
  pub taken : ℕ

-- the move that this mover made at the point; nobody makes a pass
abbrev pub made_of : Mover → ℕ → TrialMove
made_of Nobody at = Pass
made_of by_black at = Play (record { colour = Black; at = at; dropped = false })
made_of by_white at = Play (record { colour = White; at = at; dropped = false })
made_of BlackAgainstBan at = Play (record { colour = Black; at = at; dropped = true })
made_of WhiteAgainstBan at = Play (record { colour = White; at = at; dropped = true })

-- who played, and whether a ban was dropped for it
abbrev pub player : Colour → Bool → Mover
player Black false = by_black
player White false = by_white
player Black true = BlackAgainstBan
player White true = WhiteAgainstBan

-- who made the move
abbrev pub mover_of : TrialMove → Mover
mover_of Pass = Nobody
mover_of (Play m) = player m.colour m.dropped

-- the point of the move; 0 for a pass
abbrev pub place_of : TrialMove → ℕ
place_of Pass = 0
place_of (Play m) = m.at

-- the ban on a play at the point by the banned colour; None if no one is banned
abbrev pub ban_of : Banned → ℕ → Option (ℕ × Colour)
ban_of no_one at = None
ban_of bans_black at = Some (at, Black)
ban_of bans_white at = Some (at, White)

-- who is banned by a ban on the colour
abbrev pub on_colour : Colour → Banned
on_colour Black = bans_black
on_colour White = bans_white

-- whom the ban is on; no one without a ban
abbrev pub banned_of : Option (ℕ × Colour) → Banned
banned_of None = no_one
banned_of (Some b) = on_colour b.1

-- the point of the ban; 0 without a ban
abbrev pub ban_place_of : Option (ℕ × Colour) → ℕ
ban_place_of None = 0
ban_place_of (Some b) = b.0

-- the kept move that the fields stand for
abbrev pub kept_move : Inside → UndoableMove
kept_move a = record { made = made_of a.by a.at; ban = ban_of a.banned a.ban_at; first = a.first; taken = a.taken }

-- the point of a pass is 0, and so is the point of no ban
pub record IsPlain (a : Inside) : Type 0 where
  pub at : place_of (made_of a.by a.at) ≡ a.at
  pub ban_at : ban_place_of (ban_of a.banned a.ban_at) ≡ a.ban_at

-- the fields that keep a move
abbrev pub fields_of : UndoableMove → Inside
fields_of k = record {
  at = place_of k.made;
  ban_at = ban_place_of k.ban;
  first = k.first;
  taken = k.taken;
  by = mover_of k.made;
  banned = banned_of k.ban;
}

-- mover_of gives back the mover that made_of was given
mover_back : (by : Mover) (at : ℕ) → mover_of (made_of by at) ≡ by
mover_back Nobody at = refl
mover_back by_black at = refl
mover_back by_white at = refl
mover_back BlackAgainstBan at = refl
mover_back WhiteAgainstBan at = refl

-- banned_of gives back the banned one that ban_of was given
banned_back : (banned : Banned) (at : ℕ) → banned_of (ban_of banned at) ≡ banned
banned_back no_one at = refl
banned_back bans_black at = refl
banned_back bans_white at = refl

-- the fields of a with these points, mover and banned one
fields : Inside → ℕ → ℕ → Mover → Banned → Inside
fields a at ban_at by banned = record {
  at = at;
  ban_at = ban_at;
  first = a.first;
  taken = a.taken;
  by = by;
  banned = banned;
}

-- the kept move determines its fields
pub fields_of-kept_move : (a : Inside) → IsPlain a → fields_of (kept_move a) ≡ a
unfolding fields
fields_of-kept_move a h =
    let at = place_of (made_of a.by a.at) in
    let ban_at = ban_place_of (ban_of a.banned a.ban_at) in
    ap (λ by. fields a at ban_at by (banned_of (ban_of a.banned a.ban_at))) (mover_back a.by a.at)
    ∙ ap (λ banned. fields a at ban_at a.by banned) (banned_back a.banned a.ban_at)
    ∙ ap (λ x. fields a x ban_at a.by a.banned) h.at
    ∙ ap (λ x. fields a a.at x a.by a.banned) h.ban_at
