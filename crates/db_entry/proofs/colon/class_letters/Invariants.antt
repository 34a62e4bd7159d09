use Rattle.std.proofs.Common.{◌≡◌, take}
use Rattle.db_rules.specs.Colon.{class_letters as letters_in}
use Rattle.db_entry.proofs.colon.class_letters.Given as goal

-- the letters gathered are the class letters of the bytes read so far
abbrev pub invariant-loop-b : goal.invariant-loop-b
invariant-loop-b l = l.list ≡ letters_in (take l.b-index l.field)
