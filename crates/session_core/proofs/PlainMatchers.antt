-- Matchers that find matches by the automaton of their patterns.
use Rattle.std.proofs.Common.{◌≡◌, List, arith}
use Rattle.pat_types.specs.declared.pattern.Pattern.{Pattern}
use Rattle.dfa_core.specs.Automata.{Row}
use Rattle.dfa_core.specs.States.{IsAutomatonOf}
use Rattle.machine_rules.specs.Matcher.{plain_matcher, automaton_matcher}
use Rattle.match_engine.proofs.Patterns.{same_by_automaton}

-- with the automaton of its patterns a matcher is their plain matcher
pub matcher-plain : (patterns : List Pattern) (rows : List Row) → IsAutomatonOf patterns rows
    → automaton_matcher patterns rows ≡ plain_matcher patterns
matcher-plain patterns rows accepts = grind (arith, same_by_automaton)
