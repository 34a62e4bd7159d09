use Rattle.std.proofs.Common.{◌∙◌, sym, ap, subst}
use Rattle.read_cache.specs.Kept.{HoldsOfEach}
use Rattle.read_cache.proofs.KeepingLemmas.{each_rests-kept}
use Rattle.read_cache.proofs.kept_answers.KeptAnswers.read_and_keep.Goals as goal
use Rattle.read_cache.proofs.kept_answers.KeptAnswers.read_and_keep.Goals.{in-Err, in_default}

-- what was kept rests on its facts, and so does the rest
pub invariant_of-self-in_default : goal.invariant_of-self-in_default
invariant_of-self-in_default g c =
    each_rests-kept g.Q.Readable.rests g.Q.PartialEq.eq g.met.Q.Question.same c.args.q c.self.inside.cache
    c.keep.new.self c.self.invariant c.read.result.0 c.read.ensures.rests c.in_default.ensures.kept

-- so each kept variant does, whether the answer was kept or not
pub returns-clause-each : goal.returns-clause-each
returns-clause-each g c =
    let each = HoldsOfEach g.Q.Readable.rests in
    elim c.match-keep.branch as (λ _. each c.match-keep.self.kept) [
      | in-Err w ↦ subst each (sym (ap (λ now. now.kept) w.self-is ∙ w.in-Err.ensures.refused)) c.self.invariant
      | in_default w ↦ subst (λ now. each now.kept) (sym w.self-is)
          (each_rests-kept g.Q.Readable.rests g.Q.PartialEq.eq g.met.Q.Question.same c.args.q c.self.inside.cache
          c.keep.new.self c.self.invariant c.read.result.0 c.read.ensures.rests w.in_default.ensures.kept)
    ]
