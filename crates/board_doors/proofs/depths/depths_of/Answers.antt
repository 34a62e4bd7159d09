-- The numbers are depths, or one of them is out of its range.
use Rattle.std.proofs.Common.{arith}
use Rattle.board_doors.proofs.DepthNumbers.{none_made, no_tree, depths_made}
use Rattle.board_doors.proofs.depths.depths_of.Goals as goal

-- plies or wide plies are out of their range
pub returns-in_default-clause-named : goal.returns-in_default-clause-named
returns-in_default-clause-named c = none_made c.args.depths c.new.result c.new.ensures.valid c.in_default.is

-- no tree has the number
pub returns-then-depths-gt-WIDER-clause-named : goal.returns-then-depths-gt-WIDER-clause-named
returns-then-depths-gt-WIDER-clause-named c =
    no_tree c.args.depths c.new.result c.in-Some.stated c.new.ensures.valid c.in-Some.is
    (omega (arith, c.if-depths-gt-WIDER.true))

-- all are in their ranges
pub returns-clause-named : goal.returns-clause-named
returns-clause-named c =
    depths_made c.args.depths c.new.result c.in-Some.stated c.new.ensures.valid c.in-Some.is
    (omega (arith, c.if-depths-gt-WIDER.false))
