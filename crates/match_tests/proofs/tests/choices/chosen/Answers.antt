use Rattle.std.proofs.Common.{◌<◌, length, Contains, subst}
use Rattle.std.proofs.lemmas.List.Elements.{All-contains}
use Rattle.match_rules.specs.declared.found.Match.{Match}
use Rattle.match_tests.proofs.tests.choices.chosen.Goals as goal

-- each match names one of the patterns
pub choose-requires : goal.choose-requires
choose-requires c = λ z there.
    All-contains (λ (y : Match). y.pattern < length c.args.patterns.now) c.matches.matches.items z c.matches.invariant
    (subst (λ l. Contains l z) c.deref.ensures.value there)
