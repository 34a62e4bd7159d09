use Rattle.read_cache.proofs.StandingVariants.{IsFirstStanding-at, NoneStands-more}
use Rattle.read_cache.proofs.variants.first_standing.Goals as goal

-- the first that stands
pub returns-then-stands-clause-some : goal.returns-then-stands-clause-some
returns-then-stands-clause-some g c =
    IsFirstStanding-at c.args.position.now c.args.variants.now c.loop-i.i c.index-variants-i.result c.loop-i-test.true
    c.index-variants-i.is c.loop-i.invariant (c.stands.ensures.0 c.if-stands.true)

-- one more does not stand
pub loop-i-preserved : goal.loop-i-preserved
loop-i-preserved g c = NoneStands-more c.args.position.now c.args.variants.now c.loop-i.i c.index-variants-i.result
    c.loop-i-test.true c.index-variants-i.is c.loop-i.invariant
    (λ stands. let yes = c.stands.ensures.1 stands in let no = c.if-stands.false in cc)
