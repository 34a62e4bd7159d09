use Rattle.std.proofs.Common.{◌-◌}
use Rattle.go_rules.specs.Board.{largest_points}
use Rattle.go_strings.specs.Notes.{IsNoted}
use Rattle.go_strings.proofs.NewNames.{RenamedBelow}
use Rattle.go_strings.proofs.notes.rename_noted.Given as goal

-- the stones below the next point have the name, and what they had was noted
abbrev pub invariant-loop-q : goal.invariant-loop-q
invariant-loop-q l = record {
  renamed : RenamedBelow l.initial.names l.names l.stones l.name l.next;
  noted : IsNoted l.board.cells l.board.cells l.initial.names l.names l.initial.notes.items l.notes.items;
}

-- how many points are left
abbrev pub decreases-loop-q : goal.decreases-loop-q
decreases-loop-q l = largest_points - l.next
