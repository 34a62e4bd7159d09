use Rattle.std.proofs.Common.{◌<◌, length, All}
use Rattle.match_rules.specs.declared.found.Match.{Match}
use Rattle.match_tests.proofs.tests.choices.chosen.Given as goal

-- each match so far names one of the patterns
abbrev pub invariant-matches : goal.invariant-matches
invariant-matches l = All (λ (z : Match). z.pattern < length l.patterns) l.matches.items
