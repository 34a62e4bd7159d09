-- What contracts see of a matcher: patterns, and the automaton that finds their matches.
use Rattle.std.specs.Prelude.{ℕ, ◌<◌, List, length, Contains}
use Rattle.pat_types.specs.declared.pattern.Pattern.{Pattern}
use Rattle.dfa_core.specs.Automata.{Row, accepted}
use Rattle.dfa_core.specs.Words.{Word}
use Rattle.machine_rules.specs.Matcher.{Matcher, automaton_matcher}

-- patterns, and the rows of the automaton that finds their matches
pub record MatcherView : Type 0 where
  pub patterns : List Pattern
  pub automaton : List Row

-- the matcher of the plain machine that finds the same matches
abbrev pub matcher_of : MatcherView → Matcher
matcher_of view = automaton_matcher view.patterns view.automaton

-- each number that the automaton accepts is the place of one of the patterns
abbrev pub NumbersPatterns : List Row → List Pattern → Type 0
NumbersPatterns automaton patterns = (w : Word) (n : ℕ) → Contains (accepted automaton w) n → n < length patterns
