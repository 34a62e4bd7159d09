use Rattle.std.proofs.Common.{[], ◌∷◌, take, subst, sym, ap, ◌∙◌}
use Rattle.std.specs.Option.{option_copied_mut, option_map_or}
use Rattle.read_cache.specs.Kept.{AreVariants, put_first}
use Rattle.read_cache.proofs.MapEntries.{variants_of-there, variants_are, written-put_first, IsSound-written}
use Rattle.read_cache.proofs.CacheSoundness.{AreVariants-with}
use Rattle.read_cache.proofs.cache.Cache.keep.Goals as goal

-- the variant is right, and so are those that stay
pub invariant_of-self : goal.invariant_of-self
invariant_of-self g c =
    let map = c.self.inside.kept in
    let eq = g.Q.PartialEq.eq in
    let meaning = g.Q.Question.meaning in
    let same = g.met.Q.Question.same in
    let kept = c.in-Some.kept.now in
    let at_key = sym c.get_mut.ensures.value ∙ ap option_copied_mut c.in-Some.is in
    let are = variants_are eq c.args.q map.entries map.cap c.args.self.now c.self.view_is meaning same c.self.invariant
    kept at_key in
    IsSound-written eq c.args.q map.entries map.cap c.args.self.now c.self.view_is meaning same c.self.invariant kept
    at_key c.add.new.self
    (subst (AreVariants (meaning c.args.q)) (sym c.add.ensures)
    (AreVariants-with (meaning c.args.q) (record { facts = c.args.facts; answer = c.args.answer }) kept
    (record { right = λ pos a. c.requires pos a }) are))

-- it is put before three of them
pub returns-in-Some-clause-kept : goal.returns-in-Some-clause-kept
returns-in-Some-clause-kept g c =
    let map = c.self.inside.kept in
    let eq = g.Q.PartialEq.eq in
    let kept = c.in-Some.kept.now in
    let at_key = sym c.get_mut.ensures.value ∙ ap option_copied_mut c.in-Some.is in
    let there = variants_of-there eq c.args.q map.entries map.cap c.args.self.now c.self.view_is kept at_key in
    written-put_first eq c.args.q map.entries map.cap c.args.self.now c.self.view_is kept c.add.new.self at_key
    ∙ ap (λ ws. put_first eq c.args.q ws c.args.self.now) (c.add.ensures
    ∙ ap (λ o. (record { facts = c.args.facts; answer = c.args.answer }) ∷ option_map_or (λ vs. take 3 vs) o [])
    (sym there))
