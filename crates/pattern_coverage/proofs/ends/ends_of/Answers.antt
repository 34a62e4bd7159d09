use Rattle.std.proofs.Common.{sym}
use Rattle.std.proofs.lemmas.Option.{slice_get_within}
use Rattle.pattern_coverage.proofs.ends.ends_of.Goals as goal

-- the try is of a pattern of the list
pub end_of-requires-clause-pattern : goal.end_of-requires-clause-pattern
end_of-requires-clause-pattern g c =
    let there = c.requires c.z-item.result (c.tries.z-index, c.tries-test.true, sym c.z-item.is) in
    slice_get_within c.args.patterns.now c.z-item.result.pattern there.pattern there.number

-- at a point of the board
pub end_of-requires-clause-on_board : goal.end_of-requires-clause-on_board
end_of-requires-clause-on_board g c =
    let there = c.requires c.z-item.result (c.tries.z-index, c.tries-test.true, sym c.z-item.is) in
    there.on_board
