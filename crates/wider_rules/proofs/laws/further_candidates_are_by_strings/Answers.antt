use Rattle.wider_rules.proofs.FurtherLaws.{further_gives, further_from}
use Rattle.wider_rules.proofs.laws.further_candidates_are_by_strings.Goals as goal

-- the test for a further candidate and the words are one
pub returns : goal.returns
returns c = record {
  further = λ wide attacker s cells target p on.
      (further_gives s cells target wide attacker p on, further_from s cells target wide attacker p on);
}
