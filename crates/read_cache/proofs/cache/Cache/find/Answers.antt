use Rattle.read_cache.proofs.Places.{IsFound-standing}
use Rattle.read_cache.proofs.cache.Cache.find.Goals as goal

-- the first that stands is found, and its place was brought first
pub returns-clause-found : goal.returns-clause-found
returns-clause-found g c =
    IsFound-standing g.Q.PartialEq.eq c.args.q.now c.args.self.now c.in_ok-place.place c.args.position.now
    c.in_ok-place.answer c.bring.new.self c.in_ok-place.ensures.some c.bring.ensures
