use Rattle.std.proofs.Common.{◌≡◌, length}
use Rattle.db_read.proofs.ReaderProgress.{Walked}
use Rattle.db_read.proofs.reader.read.Given as goal

-- the reader has read the lines that were handed out, and none of them has a fault
abbrev pub invariant-loop-told : goal.invariant-loop-told
invariant-loop-told l = (l.lexer.text ≡ l.text) × Walked l.helpers l.text l.reader l.lexer.left

-- the lines that are left
abbrev pub decreases-loop-told : goal.decreases-loop-told
decreases-loop-told l = length l.lexer.left
