use Rattle.std.proofs.Common.{◌<◌, List, length, sym, ap, ◌∙◌, subst}
use Rattle.helpers.specs.HelperStates.{says_yes}
use Rattle.helpers.specs.Slots.{states_of}
use Rattle.pat_types.specs.declared.pattern.Pattern.{Pattern}
use Rattle.pattern_changes.proofs.Advice.{raised-says, on_ok}
use Rattle.pattern_changes.proofs.matcher.Matcher.find.Goals as goal

-- the automaton accepts numbers of the patterns alone
pub matches-requires : goal.matches-requires
matches-requires g c = record {
  numbers = λ w n there. subst (λ (ps : List Pattern). n < length ps) (sym c.as_slice.ensures.value)
      (c.self.invariant.numbers w n there);
}

-- helpers that were asked say what they said
pub returns-clause-advice : goal.returns-clause-advice
returns-clause-advice g c =
    let slots = states_of (λ z. (goal.Helper-dyn g z).state z.1) c.args.helpers.now in
    on_ok c.matches.result (λ calls. ap says_yes calls ∙ raised-says _ slots) c.matches.ensures.calls
