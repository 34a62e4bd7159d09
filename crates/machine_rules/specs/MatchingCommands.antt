-- What the commands do that list patterns and their matches.
use Rattle.std.specs.Prelude.{List, ℕ}
use Rattle.go_rules.specs.declared.Colour.{Colour}
use Rattle.helpers.specs.HelperStates.{says_yes}
use Rattle.match_rules.specs.Conditions.{all_yes}
use Rattle.match_rules.specs.declared.found.Match.{Match}
use Rattle.match_engine.specs.HelperCalls.{after_matches}
use Rattle.machine_rules.specs.Machine.{Machine, position_of}
use Rattle.machine_rules.specs.Matcher.{Matcher}
use Rattle.machine_rules.specs.Effects.{Effect, succeeded, grown, growing}
use Rattle.machine_rules.specs.MatchTexts.{matches_text}
use Rattle.machine_rules.specs.PatternTexts.{patterns_text}

-- the matches for a friend that pass the helpers; a helper that is missing or off says no
abbrev pub matches_found : Matcher → Machine → Colour → List Match
matches_found matcher old friend = matcher.matches (says_yes old.helpers) old friend

-- the machine after its helpers were asked about each match that they may allow, as often as the rule of asking says
abbrev pub after_asking : Matcher → Machine → Colour → Machine
after_asking matcher old friend = record old {
  helpers = after_matches old.helpers matcher.patterns (matcher.matches all_yes old friend) (position_of old) friend;
}

-- the command succeeds with this result after the helpers were asked, in a growing reply: if there is no memory for it,
-- the helpers may have been asked or not, and nothing else of the line counts
abbrev pub advised : Machine → Machine → List ℕ → Machine → Effect
advised old asked result next = growing old (growing asked (succeeded result next))

-- the matches for a friend are listed
abbrev pub matches_listed : Matcher → Machine → Colour → Effect
matches_listed matcher old friend = advised old (after_asking matcher old friend)
    (matches_text matcher.patterns (position_of old).size (matches_found matcher old friend))
    (after_asking matcher old friend)

-- the patterns are listed
abbrev pub patterns_listed : Matcher → Machine → Effect
patterns_listed matcher old = grown old (patterns_text matcher.patterns) old
