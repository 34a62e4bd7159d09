use Rattle.std.proofs.Common.{◌≡◌, ◌++◌, take}
use Rattle.std.specs.List.{filter_map}
use Rattle.db_rules.specs.Diagram.{letter_of}
use Rattle.db_entry.proofs.diagram.lines.push_inner.Given as goal

-- the letters of the bytes read so far stand behind those that were there
abbrev pub invariant-loop-b : goal.invariant-loop-b
invariant-loop-b l = l.letters ≡ l.fn.letters ++ filter_map letter_of (take l.b-index l.inner)
