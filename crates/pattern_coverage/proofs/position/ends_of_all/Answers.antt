use Rattle.std.proofs.Common.{◌<◌, length, arith, refl}
use Rattle.std.proofs.lemmas.Option.{slice_get_read, slice_get-get_or}
use Rattle.std.proofs.lemmas.List.{take_all}
use Rattle.pattern_coverage.proofs.AllEnds.{AreAllEnds-next}
use Rattle.pattern_coverage.proofs.position.ends_of_all.Goals as goal

-- the ends of one pattern more
pub patterns-preserved : goal.patterns-preserved
patterns-preserved c d advice later =
    let within : c.patterns.place < length c.args.later.now = omega (arith, c.requires.same, c.patterns-test.true) in
    AreAllEnds-next d advice c.args.position.now c.args.friend c.args.patterns.now c.patterns.place
    c.index-patterns-place.result c.patterns.counts.items c.push.new.self.items c.ends_of_one.result
    c.patterns-test.true c.index-patterns-place.is (c.patterns.invariant d advice later)
    (c.ends_of_one.ensures d advice (later c.patterns.place c.index-patterns-place.result _
    (slice_get_read c.args.patterns.now (length c.args.patterns.now) c.patterns.place c.index-patterns-place.result refl
    c.patterns-test.true c.index-patterns-place.is)
    (slice_get-get_or c.args.later.now c.patterns.place _ within)))
    c.in_ok-push.ensures.items

-- behind the last pattern those of all
pub returns : goal.returns
returns c d advice later = grind (arith, take_all)
