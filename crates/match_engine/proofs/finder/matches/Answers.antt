use Rattle.std.proofs.Common.{◌∙◌, ap, subst, Contains, arith}
use Rattle.helpers.specs.HelperStates.{says_yes}
use Rattle.helpers.specs.Slots.{states_of}
use Rattle.match_rules.specs.Conditions.{all_yes}
use Rattle.match_rules.proofs.Lists.{Contains-filter}
use Rattle.match_engine.specs.HelperCalls.{after_matches}
use Rattle.match_engine.specs.Readings.{codes_of}
use Rattle.match_engine.proofs.Patterns.{allows, if_yes, if_agreed, found-there, same_by_automaton}
use Rattle.match_engine.proofs.finder.matches.Goals as goal

-- what was found is of the patterns, and lies on the board
pub keep_allowed-requires : goal.keep_allowed-requires
keep_allowed-requires g c = record {
  there = λ z there.
      found-there (codes_of c.args.readings.now) c.args.patterns.now c.args.scanner.now c.args.position.now
      c.args.friend z (subst (λ zs. Contains zs z) c.in_ok-found.ensures.found there);
}

-- so is what classes and constraint allow of it
pub keep_agreed-requires : goal.keep_agreed-requires
keep_agreed-requires g c = record {
  there = λ z there.
      let found = Contains-filter
      (allows (codes_of c.args.readings.now) c.args.patterns.now c.args.scanner.now c.args.position.now
      c.args.friend) _ z (subst (λ zs. Contains zs z) c.keep_allowed.ensures.kept there) in
      found-there (codes_of c.args.readings.now) c.args.patterns.now c.args.scanner.now c.args.position.now
      c.args.friend z (subst (λ zs. Contains zs z) c.in_ok-found.ensures.found found.0);
}

-- those that are allowed are what the automaton says if every helper says yes, and those that are agreed are the
-- matches by the automaton
pub returns-clause-automaton : goal.returns-clause-automaton
returns-clause-automaton g c =
    if_agreed (codes_of c.args.readings.now) c.args.patterns.now c.args.scanner.now c.args.position.now c.args.friend
    (says_yes (states_of (λ z. (goal.Helper-dyn g z).state z.1) c.args.helpers.now)) c.keep_allowed.new.found.items
    _
    (if_yes (codes_of c.args.readings.now) c.args.patterns.now c.args.scanner.now c.args.position.now c.args.friend
    _ _
    c.in_ok-found.ensures.found c.keep_allowed.ensures.kept) c.keep_agreed.ensures.kept

-- and those of the patterns, where the automaton is theirs
pub returns-clause-patterns : goal.returns-clause-patterns
returns-clause-patterns g c = λ theirs.
    if_agreed (codes_of c.args.readings.now) c.args.patterns.now c.args.scanner.now c.args.position.now c.args.friend
    (says_yes (states_of (λ z. (goal.Helper-dyn g z).state z.1) c.args.helpers.now)) c.keep_allowed.new.found.items
    _
    (if_yes (codes_of c.args.readings.now) c.args.patterns.now c.args.scanner.now c.args.position.now c.args.friend
    _ _
    c.in_ok-found.ensures.found c.keep_allowed.ensures.kept) c.keep_agreed.ensures.kept
    ∙ same_by_automaton (codes_of c.args.readings.now)
    (says_yes (states_of (λ z. (goal.Helper-dyn g z).state z.1) c.args.helpers.now)) c.args.patterns.now
    c.args.scanner.now c.args.position.now c.args.friend theirs

-- the helpers were asked about what matches if they say yes
pub returns-clause-calls : goal.returns-clause-calls
returns-clause-calls g c = grind (arith, if_yes)

-- by the automaton of the patterns the helpers are asked about the matches of the patterns
pub returns-clause-calls_of_patterns : goal.returns-clause-calls_of_patterns
returns-clause-calls_of_patterns g c = λ theirs.
    c.keep_agreed.ensures.calls
    ∙ ap (λ zs. after_matches (states_of (λ z. (goal.Helper-dyn g z).state z.1) c.args.helpers.now) c.args.patterns.now
    zs c.args.position.now c.args.friend)
    (if_yes (codes_of c.args.readings.now) c.args.patterns.now c.args.scanner.now c.args.position.now c.args.friend
    _ _
    c.in_ok-found.ensures.found c.keep_allowed.ensures.kept
    ∙ same_by_automaton (codes_of c.args.readings.now) all_yes c.args.patterns.now c.args.scanner.now
    c.args.position.now
    c.args.friend theirs)
