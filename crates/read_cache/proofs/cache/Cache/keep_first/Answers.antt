use Rattle.std.proofs.Common.{subst, sym, ap}
use Rattle.read_cache.specs.Kept.{AreVariants, IsSound}
use Rattle.read_cache.proofs.CacheSoundness.{AreVariants-alone, IsSound-put_first}
use Rattle.read_cache.proofs.cache.Cache.keep_first.Goals as goal

-- the variant is right, and what is put keeps the rest right
pub invariant_of-self-2 : goal.invariant_of-self-2
invariant_of-self-2 g c =
    let map = c.self.inside.kept in
    let meaning = g.Q.Question.meaning in
    subst (IsSound meaning) (sym (ap (λ after. after.entries) c.in_ok-put.ensures.entries))
    (IsSound-put_first meaning g.Q.PartialEq.eq g.met.Q.Question.same (map.entries, map.cap) c.args.q
    c.in_ok-variants.variants c.self.invariant
    (subst (AreVariants (meaning c.args.q)) (sym c.in_ok-variants.ensures)
    (AreVariants-alone (meaning c.args.q) c.args.variant c.requires.right)))
