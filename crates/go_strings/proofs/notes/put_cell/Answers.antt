use Rattle.std.proofs.Common.{arith}
use Rattle.std.proofs.Math.Seq.{take-set-lt}
use Rattle.go_strings.proofs.NoteTrails.{noted_cell, keeps_set}
use Rattle.go_strings.proofs.notes.put_cell.Goals as goal

-- what the point had was noted
pub returns-clause-noted : goal.returns-clause-noted
returns-clause-noted c = noted_cell _ _ _ _ c.args.p c.args.cell c.in_ok-keep_note.ensures.ok

-- all else is as it was
pub returns-clause-keeps : goal.returns-clause-keeps
returns-clause-keeps c = keeps_set c.args.board.now c.args.p c.args.cell c.requires.on_board

-- and it was written at p alone
pub returns-clause-ok : goal.returns-clause-ok
returns-clause-ok c = grind (arith, take-set-lt)
