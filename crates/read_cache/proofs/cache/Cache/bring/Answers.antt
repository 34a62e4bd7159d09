use Rattle.std.proofs.Common.{sym, ap, subst, ◌∙◌}
use Rattle.read_cache.specs.Kept.{IsSound, put_first}
use Rattle.read_cache.proofs.Places.{front_first, promoted_first, IsSound-promoted}
use Rattle.read_cache.proofs.cache.Cache.bring.Goals as goal

-- what is promoted was right
pub invariant_of-self : goal.invariant_of-self
invariant_of-self g c =
    let map = c.self.inside.kept in
    subst (IsSound g.Q.Question.meaning) (sym (ap (λ after. after.entries) c.promote.ensures))
    (IsSound-promoted g.Q.PartialEq.eq c.args.q.now g.Q.Question.meaning map.entries c.self.invariant)

-- the question is first, and its variants stay
pub returns-then-place-eq0 : goal.returns-then-place-eq0
returns-then-place-eq0 g c = λ at.
    let map = c.self.inside.kept in
    let eq = g.Q.PartialEq.eq in
    let same = front_first eq c.args.q.now c.args.self.now c.args.place at c.if-place-eq0.true in
    ap (λ after. (after.entries, after.cap)) c.promote.ensures
    ∙ promoted_first eq c.args.q.now map.entries map.cap c.args.self.now c.self.view_is at.variants at.is_kept
    ∙ ap (λ vs. put_first eq c.args.q.now vs c.args.self.now) (sym same)
