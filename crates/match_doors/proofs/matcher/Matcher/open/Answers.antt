-- The scanner's rows are those of the automaton.
use Rattle.std.proofs.Common.{sym, subst}
use Rattle.dfa_core.specs.States.{IsAutomatonOf}
use Rattle.match_doors.specs.Patterns.{NumbersPatterns}
use Rattle.match_doors.proofs.matcher.Matcher.open.Goals as goal

-- they are those of the patterns
pub invariant_of-result : goal.invariant_of-result
invariant_of-result c =
    let list = c.in_ok-list.field-0.list.items in
    let read = c.in_ok-list.ensures.ok in
    record {
      automaton = subst (λ rows. IsAutomatonOf list rows) (sym c.in_ok-scanner.ensures) read.automaton;
      numbers = subst (λ rows. NumbersPatterns rows list) (sym c.in_ok-scanner.ensures) read.numbers;
    }
