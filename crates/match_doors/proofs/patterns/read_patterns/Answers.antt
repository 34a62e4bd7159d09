-- The text has no fault, and the automaton is that of its patterns.
use Rattle.std.proofs.Common.{length, subst}
use Rattle.dfa_core.specs.States.{IsAutomatonOf, HasStates}
use Rattle.match_doors.specs.Patterns.{NumbersPatterns}
use Rattle.match_doors.proofs.patterns.read_patterns.Goals as goal

-- the automaton was made of the patterns, which the text spells
pub returns-clause-ok : goal.returns-clause-ok
returns-clause-ok c =
    let rows = c.in_ok-automaton.automaton in
    let same = c.as_slice.ensures.value in
    record {
      patterns = record { sound = c.in_ok-list.ensures.ok.0; spelled = c.in_ok-list.ensures.ok.1 };
      few = (
        length rows,
        subst (λ ps. HasStates ps (length rows)) same c.in_ok-automaton.ensures.states,
        c.in_ok-automaton.ensures.bound,
      );
      automaton = subst (λ ps. IsAutomatonOf ps rows) same c.in_ok-automaton.ensures.accepts;
      numbers = subst (λ ps. NumbersPatterns rows ps) same c.in_ok-automaton.ensures.numbers;
    }
