-- The rules of zones.
use Rattle.std.proofs.Common.{ap, ◌∙◌, add-one, arith}
use Rattle.sure_rules.specs.SureTree.{surely_wins}
use Rattle.sure_rules.proofs.ZoneLemmas.{captured_at_last, zone_captured, zone_taken_back, zone_attacker, zone_defender}
use Rattle.sure_rules.proofs.laws.zones_are_by_rules.Goals as goal

-- a position agrees with itself
pub returns-clause-itself : goal.returns-clause-itself
returns-clause-itself c = grind arith

-- what agrees on more points agrees on fewer
pub returns-clause-larger : goal.returns-clause-larger
returns-clause-larger c = grind arith

-- a target that is taken and not taken back
pub returns-clause-captured : goal.returns-clause-captured
returns-clause-captured c = zone_captured

-- a target that is taken back without success
pub returns-clause-taken_back : goal.returns-clause-taken_back
returns-clause-taken_back c = λ n node pos Z gone w here sound agrees.
    ap (λ m. surely_wins m node here) (add-one n) ∙ zone_taken_back n node pos Z gone w here sound agrees

-- the attacker's turn
pub returns-clause-attacker : goal.returns-clause-attacker
returns-clause-attacker c = λ n node pos Z turn w here sound agrees.
    ap (λ m. surely_wins m node here) (add-one n) ∙ zone_attacker n node pos Z turn w here sound agrees

-- the defender's turn
pub returns-clause-defender : goal.returns-clause-defender
returns-clause-defender c = λ n node pos Z turn w here sound agrees.
    ap (λ m. surely_wins m node here) (add-one n) ∙ zone_defender n node pos Z turn w here sound agrees

-- what a play captures had one liberty
pub returns-clause-last_liberty : goal.returns-clause-last_liberty
returns-clause-last_liberty c = captured_at_last
