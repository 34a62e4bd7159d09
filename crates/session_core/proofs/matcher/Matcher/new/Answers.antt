-- The scanner's rows are those of the automaton, which accepts numbers of the patterns alone.
use Rattle.std.proofs.Common.{sym, subst}
use Rattle.session_core.specs.MatcherView.{NumbersPatterns}
use Rattle.session_core.proofs.matcher.Matcher.new.Goals as goal

-- each number that the scanner accepts is that of one of the patterns
pub invariant_of-result : goal.invariant_of-result
invariant_of-result c =
    subst (λ rows. NumbersPatterns rows c.args.patterns.items) (sym c.in_ok-scanner.ensures) c.requires.numbers
