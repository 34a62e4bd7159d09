-- A play that the rules allow, by the strings that it meets.
use Rattle.std.specs.Prelude.{◌≡◌, ℕ, slice_set, Ok}
use Rattle.go_rules.specs.declared.Colour.{Colour}
use Rattle.go_rules.specs.Play.{play, taken_at, cells_after, ban_after}
use Rattle.go_rules.specs.Position.{stone_of}
use Rattle.go_strings.specs.declared.gather.MetStrings.{MetStrings}
use Rattle.go_strings.specs.declared.standing.Standing.{Standing}
use Rattle.go_strings.specs.Changes.{IsOf}
use Rattle.go_strings.specs.Puts.{Puts}
use Rattle.go_strings.specs.Stands.{cells_of}
use Rattle.go_strings.specs.Trails.{position_in}

-- c may play at the empty point p: met.own is the string of its stone once it is put, with the liberties before any
-- stone is taken, and met.taken are the stones that it takes
pub record IsAllowed (now : Standing) (c : Colour) (p : ℕ) (met : MetStrings) : Type 0 where
  pub put : Puts now.board.size (cells_of now.board) c p
  pub own : IsOf now.board.size (slice_set (cells_of now.board) p (stone_of c)) p met.own
  pub taken : met.taken ≡ taken_at now.board.size (slice_set (cells_of now.board) p (stone_of c)) c
  pub done : play (position_in now) c p ≡ Ok (record {
    size = now.board.size;
    cells = cells_after now.board.size (slice_set (cells_of now.board) p (stone_of c)) c;
    ban = ban_after now.board.size (slice_set (cells_of now.board) p (stone_of c))
        (cells_after now.board.size (slice_set (cells_of now.board) p (stone_of c)) c) c p;
  })
