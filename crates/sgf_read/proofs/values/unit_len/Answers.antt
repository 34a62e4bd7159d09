-- A backslash takes the byte behind it.
use Rattle.std.proofs.Common.{◌+◌, ◌<◌, length, get_or, eq-eqb, arith}
use Rattle.sgf_read.proofs.ValueUnits.{taken_unit}
use Rattle.sgf_read.proofs.values.unit_len.Goals as goal

-- two bytes are taken together
pub returns-clause-rest : goal.returns-clause-rest
returns-clause-rest c =
    let more : c.args.at + 1 < length c.args.bytes.now = omega (arith, c.requires.inside, c.if-at-bytes.false) in
    taken_unit c.args.bytes.now c.args.at more c.requires.goes_on
    (eq-eqb (get_or c.args.bytes.now c.args.at 0) 92 c.if-bytes-at-ne92.false)
