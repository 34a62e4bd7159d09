-- What a view of a board shows.
use Rattle.go_rules.specs.Position.{BoardState}
use Rattle.go_strings.specs.declared.look.BoardLook.{BoardLook}
use Rattle.go_strings.specs.Games.{reached}

-- the position that the board shows
abbrev pub shown_by : BoardLook → BoardState
shown_by look = reached look.board.now
