use Rattle.std.proofs.Common.{sym, ap, subst, ◌∙◌, arith}
use Rattle.std.specs.Option.{option_copied}
use Rattle.read_cache.specs.Variants.{IsFirstStanding}
use Rattle.read_cache.proofs.Places.{found_right}
use Rattle.read_cache.proofs.MapEntries.{variants_of-there, variants_of-none, variants_are}
use Rattle.read_cache.proofs.StandingVariants.{StandsAt-by, answer_at}
use Rattle.read_cache.proofs.cache.Cache.standing.Goals as goal

-- the first that stands, with its answer
pub returns-in-Some-first_standing-clause-some : goal.returns-in-Some-first_standing-clause-some
returns-in-Some-first_standing-clause-some g c =
    let map = c.self.inside.kept in
    let at_key = sym c.value_of.ensures ∙ ap option_copied c.in-Some.is in
    let there = variants_of-there g.Q.PartialEq.eq c.args.q.now map.entries map.cap c.args.self.now
    c.self.view_is c.in-Some.kept.now at_key in
    StandsAt-by g.Q.PartialEq.eq c.args.q.now c.args.position.now c.args.self.now c.in-Some.kept.now
    c.as_slice.result.now c.as_slice-in-Some-first_standing.result.now c.in-Some-first_standing.place
    c.index-as_slice-place.result
    there c.as_slice.ensures c.as_slice-in-Some-first_standing.ensures c.in-Some-first_standing.ensures.some

-- which is right
pub returns-in-Some-first_standing-clause-right : goal.returns-in-Some-first_standing-clause-right
returns-in-Some-first_standing-clause-right g c =
    let map = c.self.inside.kept in
    let at_key = sym c.value_of.ensures ∙ ap option_copied c.in-Some.is in
    let are = variants_are g.Q.PartialEq.eq c.args.q.now map.entries map.cap c.args.self.now c.self.view_is
    g.Q.Question.meaning g.met.Q.Question.same c.self.invariant c.in-Some.kept.now at_key in
    let place = c.in-Some-first_standing.place in
    let pos = c.args.position.now in
    let first = subst (λ vs. IsFirstStanding pos vs place) c.as_slice.ensures c.in-Some-first_standing.ensures.some in
    answer_at first c.index-as_slice-place.result c.as_slice-in-Some-first_standing.ensures
    ∙ found_right first (g.Q.Question.meaning c.args.q.now) are

-- none stands
pub returns-in-None-first_standing-clause-none : goal.returns-in-None-first_standing-clause-none
returns-in-None-first_standing-clause-none g c = grind (arith, variants_of-there)

-- there are none
pub returns-in-None-clause-none : goal.returns-in-None-clause-none
returns-in-None-clause-none g c = grind (arith, variants_of-none)
