-- How a session finds matches. No line changes the matcher: it is not part of the machine, and `step` takes it.
use Rattle.std.specs.Prelude.{List}
use Rattle.go_rules.specs.declared.Colour.{Colour}
use Rattle.pat_types.specs.declared.pattern.Pattern.{Pattern}
use Rattle.dfa_core.specs.Automata.{Row}
use Rattle.match_rules.specs.declared.found.Match.{Match}
use Rattle.match_rules.specs.Conditions.{Advice}
use Rattle.match_rules.specs.Match.{matches_of}
use Rattle.match_engine.specs.AutomatonMatches.{automaton_matches}
use Rattle.cons_eval.specs.Readings.{Codes}
use Rattle.match_engine.specs.Readings.{codes_at}
use Rattle.machine_rules.specs.Machine.{Machine, position_of}

-- patterns, and their matches on the position of a machine for a friend, given what the helpers advise
pub record Matcher : Type 0 where
  pub patterns : List Pattern
  pub matches : Advice → Machine → Colour → List Match

-- the codes of readings as deep as the machine reads, each read afresh
abbrev pub codes_of : Machine → Codes
codes_of machine = codes_at machine.depths

-- the plain matcher of these patterns: it compares each of their diagrams with the board, reads afresh what their
-- classes and constraints ask, and asks the helpers that they name
abbrev pub plain_matcher : List Pattern → Matcher
plain_matcher patterns = record {
  patterns = patterns;
  matches = λ advice machine friend. matches_of (codes_of machine) advice patterns (position_of machine) friend;
}

-- the matcher that finds matches of these patterns with an automaton, which need not be built from them
abbrev pub automaton_matcher : List Pattern → List Row → Matcher
automaton_matcher patterns rows = record {
  patterns = patterns;
  matches = λ advice machine friend.
      automaton_matches (codes_of machine) advice rows patterns (position_of machine) friend;
}
