use Rattle.std.proofs.Common.{◌≡◌, length}
use Rattle.go_strings.proofs.NoteTrails.{Unwound}
use Rattle.go_strings.proofs.notes.unwind.Given as goal

-- the notes that were taken back lead from what stood to what stands
abbrev pub invariant-loop-notes : goal.invariant-loop-notes
invariant-loop-notes l = record {
  size : l.board.size ≡ l.initial.board.size;
  unwound : Unwound l.initial.board.cells l.initial.names l.initial.notes.items l.mark l.board.cells l.names
      l.notes.items;
}

-- how many notes are left
abbrev pub decreases-loop-notes : goal.decreases-loop-notes
decreases-loop-notes l = length l.notes.items
