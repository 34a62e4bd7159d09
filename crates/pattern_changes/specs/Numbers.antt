-- The numbers that an automaton accepts.
use Rattle.std.specs.Prelude.{ℕ, ◌<◌, List, length, Contains}
use Rattle.pat_types.specs.declared.pattern.Pattern.{Pattern}
use Rattle.dfa_core.specs.Automata.{Row, accepted}
use Rattle.dfa_core.specs.Words.{Word}

-- each number that the automaton accepts is the index of one of the patterns
abbrev pub NumbersPatterns : List Row → List Pattern → Type 0
NumbersPatterns automaton patterns = (w : Word) (n : ℕ) → Contains (accepted automaton w) n → n < length patterns
