-- The automaton accepts the patterns' numbers alone, and by it and the helpers the session is plain.
use Rattle.std.proofs.Common.{subst, arith}
use Rattle.session_core.specs.MatcherView.{NumbersPatterns}
use Rattle.session_core.proofs.PlainMatchers.{matcher-plain}
use Rattle.session.proofs.PlainSessions.{first-with}
use Rattle.session.proofs.pattern_files.session_with.Goals as goal

-- each number that the patterns' automaton accepts is that of one of them
pub new-requires : goal.new-requires
new-requires g c = record {
  numbers = subst (λ patterns. NumbersPatterns c.in_ok-automaton.automaton patterns) c.as_slice.ensures.value
      c.in_ok-automaton.ensures.numbers;
}

-- a session before its first line has the depths of the options
pub returns-clause-ok : goal.returns-clause-ok
returns-clause-ok g c = grind (arith, first-with)

-- by their automaton it finds the matches of the patterns
pub returns-clause-matches : goal.returns-clause-matches
returns-clause-matches g c = grind (arith, matcher-plain)
