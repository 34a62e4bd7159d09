use Rattle.std.proofs.Common.{arith}
use Rattle.read_cache.proofs.KeepingLemmas.{each_rests-sought, RestsOn-found}
use Rattle.read_cache.proofs.kept_answers.KeptAnswers.find.Goals as goal

-- what is kept is as it was, but for its order
pub invariant_of-self : goal.invariant_of-self
invariant_of-self g c = grind (arith, each_rests-sought)

-- so each kept variant still rests on its facts
pub returns-clause-each : goal.returns-clause-each
returns-clause-each g c = grind (arith, each_rests-sought)

-- and the answer that was found among them
pub returns-clause-rests : goal.returns-clause-rests
returns-clause-rests g c =
    RestsOn-found g.Q.Readable.rests g.Q.PartialEq.eq g.met.Q.Question.same c.args.q.now c.self.inside.cache
    c.find.new.self c.self.invariant c.args.position.now c.find.result c.find.ensures.found
