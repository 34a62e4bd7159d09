use Rattle.std.proofs.Common.{◌<◌, length}
use Rattle.read_tree.proofs.table.place_of.Given as goal

-- the place is one of the table
abbrev pub invariant-places : goal.invariant-places
invariant-places l = record { place : l.place < length l.table }
