-- The match that is chosen is among those that were found.
use Rattle.std.proofs.Common.{◌<◌, ◌*◌, IfSome, inl, refl, sym, subst, ◌∙◌, arith}
use Rattle.std.proofs.lemmas.Result.{err_from_is_err_and}
use Rattle.session_core.proofs.ChosenMoves.{choice-there, among-same}
use Rattle.session_core.proofs.engine.Engine.chosen_point.Goals as goal
use Rattle.session_core.proofs.engine.Engine.chosen_point.Goals.{in-Some, in-None}

-- each match bears the number of a pattern
pub choose-requires : goal.choose-requires
choose-requires g c =
    let among = among-same _ _ _ _ _ _ c.patterns.ensures refl c.as_slice.ensures.value c.in_ok-found.ensures.among in
    λ z there. (among z there).0

-- the point of the chosen one is one of the board
pub returns-clause-board : goal.returns-clause-board
returns-clause-board g c =
    let s = c.args.self.now.base.size in
    let among = among-same _ _ _ _ _ _ c.patterns.ensures refl c.as_slice.ensures.value c.in_ok-found.ensures.among in
    elim c.match-choose.branch as (λ _. IfSome c.match-choose.result (λ p. p < s * s)) [
      | in-Some w ↦
          subst (λ at. IfSome at (λ p. p < s * s)) (sym w.result-is)
          (among w.in-Some.z (choice-there c.patterns.result.now c.as_slice.result.now w.in-Some.z
          (sym c.choose.ensures.choice ∙ w.in-Some.is))).1
      | in-None w ↦ subst (λ at. IfSome at (λ p. p < s * s)) (sym w.result-is) tt
    ]

-- the helpers were asked as the rule says
pub returns-clause-asked : goal.returns-clause-asked
returns-clause-asked g c = inl c.in_ok-found.ensures.asked

-- without memory for what was found none was asked
pub returns-in_err-found-clause-asked : goal.returns-in_err-found-clause-asked
returns-in_err-found-clause-asked g c = grind (arith, err_from_is_err_and)
