use Rattle.std.proofs.Common.{sym, subst}
use Rattle.dfa_core.specs.States.{IsAutomatonOf}
use Rattle.pattern_changes.specs.Numbers.{NumbersPatterns}
use Rattle.pattern_changes.proofs.matcher.Matcher.new.Goals as goal

-- the scanner is the automaton of the patterns
pub invariant_of-result : goal.invariant_of-result
invariant_of-result c =
    let list = c.args.patterns.items in
    let m = c.in_ok-automaton.automaton in
    record {
      automaton = subst (IsAutomatonOf list) (sym c.in_ok-scanner.ensures)
          (subst (λ l. IsAutomatonOf l m) c.as_slice.ensures.value c.in_ok-automaton.ensures.accepts);
      numbers = subst (λ rows. NumbersPatterns rows list) (sym c.in_ok-scanner.ensures)
          (subst (NumbersPatterns m) c.as_slice.ensures.value c.in_ok-automaton.ensures.numbers);
    }
