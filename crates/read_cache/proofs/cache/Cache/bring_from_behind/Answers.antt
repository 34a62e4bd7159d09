use Rattle.std.proofs.Common.{refl, sym, ap, ◌∙◌}
use Rattle.std.specs.Option.{option_copied_mut}
use Rattle.read_cache.specs.Kept.{put_first}
use Rattle.read_cache.proofs.MapEntries.{variants_of-there, variants_are, written-put_first, IsSound-written}
use Rattle.read_cache.proofs.Places.{front_is, front_are}
use Rattle.read_cache.proofs.cache.Cache.bring_from_behind.Goals as goal

-- there are at most four
pub bring-requires-clause-few : goal.bring-requires-clause-few
bring-requires-clause-few g c =
    let map = c.self.inside.kept in
    let at_key = sym c.get_mut.ensures.value ∙ ap option_copied_mut c.in-Some.is in
    (variants_are g.Q.PartialEq.eq c.args.q.now map.entries map.cap c.args.self.now c.self.view_is g.Q.Question.meaning
    g.met.Q.Question.same c.self.invariant c.in-Some.kept.now at_key).few

-- they are the variants that were kept
pub invariant_of-self : goal.invariant_of-self
invariant_of-self g c =
    let map = c.self.inside.kept in
    let eq = g.Q.PartialEq.eq in
    let meaning = g.Q.Question.meaning in
    let same = g.met.Q.Question.same in
    let kept = c.in-Some.kept.now in
    let q = c.args.q.now in
    let old = c.args.self.now in
    let at_key = sym c.get_mut.ensures.value ∙ ap option_copied_mut c.in-Some.is in
    let there = variants_of-there eq q map.entries map.cap old c.self.view_is kept at_key in
    let are = variants_are eq q map.entries map.cap old c.self.view_is meaning same c.self.invariant kept at_key in
    let is = front_is eq q old c.args.place c.requires kept there kept c.bring.new.self refl c.bring.ensures in
    IsSound-written eq q map.entries map.cap old c.self.view_is meaning same c.self.invariant kept at_key
    c.bring.new.self
    (front_are eq q old c.args.place c.requires kept there c.bring.new.self (meaning q) is are)

-- the one at the place is brought before the others
pub returns : goal.returns
returns g c = λ at.
    let map = c.self.inside.kept in
    let eq = g.Q.PartialEq.eq in
    let kept = c.in-Some.kept.now in
    let q = c.args.q.now in
    let old = c.args.self.now in
    let at_key = sym c.get_mut.ensures.value ∙ ap option_copied_mut c.in-Some.is in
    let there = variants_of-there eq q map.entries map.cap old c.self.view_is kept at_key in
    written-put_first eq q map.entries map.cap old c.self.view_is kept c.bring.new.self at_key
    ∙ ap (λ ws. put_first eq q ws old)
    (front_is eq q old c.args.place at kept there kept c.bring.new.self refl c.bring.ensures)
