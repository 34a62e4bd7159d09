-- The automaton accepts numbers of the patterns alone.
use Rattle.std.proofs.Common.{subst}
use Rattle.session_core.specs.MatcherView.{MatcherView, NumbersPatterns}
use Rattle.session_core.proofs.matcher.Matcher.scanner.Goals as goal

-- so it does of the patterns that contracts see
pub returns-clause-numbers : goal.returns-clause-numbers
returns-clause-numbers c =
    subst (λ (m : MatcherView). NumbersPatterns c.self.inside.scanner m.patterns) c.self.view_is c.self.invariant
