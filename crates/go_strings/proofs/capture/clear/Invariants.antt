use Rattle.std.proofs.Common.{◌-◌}
use Rattle.go_rules.specs.declared.Cell.TheVariants.{Empty}
use Rattle.go_rules.specs.Board.{largest_points}
use Rattle.go_base.specs.Flats.{KeepsRest}
use Rattle.go_base.proofs.PutPoints.{PutOn}
use Rattle.go_strings.specs.Notes.{IsNoted}
use Rattle.go_strings.specs.Stands.{cells_of}
use Rattle.go_strings.proofs.capture.clear.Given as goal

-- the members below the next point are empty, and what they had was noted
abbrev pub invariant-loop-q : goal.invariant-loop-q
invariant-loop-q l = record {
  keeps : KeepsRest l.initial.board l.board;
  noted : IsNoted l.initial.board.cells l.board.cells l.names l.names l.initial.notes.items l.notes.items;
  put : PutOn Empty l.points (cells_of l.initial.board) (cells_of l.board) l.next;
}

-- how many points are left
abbrev pub decreases-loop-q : goal.decreases-loop-q
decreases-loop-q l = largest_points - l.next
