-- The four rules.
use Rattle.std.proofs.Common.{refl, ap, sym, ◌∙◌, add-one}
use Rattle.read_rules.proofs.RuleLemmas.{takes_back_from}
use Rattle.sure_rules.specs.SureTree.{surely_wins}
use Rattle.sure_rules.proofs.SureLemmas.{sure_by_rules, sure-none_left, taken_back_by_rules, sure-no_plies}
use Rattle.sure_rules.proofs.SureLemmas.{sure_attacker_gives, sure_attacker_from}
use Rattle.sure_rules.proofs.SureLemmas.{sure_defender_gives, sure_defender_from}
use Rattle.sure_rules.proofs.laws.sure_captures_are_by_four_rules.Goals as goal

-- the first rule: a target that is taken, and is not taken back, is captured
pub returns-clause-captured : goal.returns-clause-captured
returns-clause-captured c = sure_by_rules

-- one that is taken back is captured if it is after that
pub returns-clause-taken_back : goal.returns-clause-taken_back
returns-clause-taken_back c = taken_back_by_rules

-- and with no ply left for it, it is not
pub returns-clause-none_left : goal.returns-clause-none_left
returns-clause-none_left c = λ node pos next new w.
    sure-none_left node pos (next, new) (takes_back_from node pos next new w)

-- the second rule: with no ply left a target that stands is not
pub returns-clause-out_of_plies : goal.returns-clause-out_of_plies
returns-clause-out_of_plies c = λ node pos h. sure-no_plies 0 node pos h refl

-- the third rule: at the attacker's turn some candidate captures
pub returns-clause-attacker_to_play : goal.returns-clause-attacker_to_play
returns-clause-attacker_to_play c = λ n node pos stands turn. (
  λ h. sure_attacker_gives n node pos stands turn (sym (ap (λ m. surely_wins m node pos) (add-one n)) ∙ h),
  λ w. ap (λ m. surely_wins m node pos) (add-one n) ∙ sure_attacker_from n node pos stands turn w,
)

-- the fourth rule: at the defender's turn every reply fails
pub returns-clause-defender_to_play : goal.returns-clause-defender_to_play
returns-clause-defender_to_play c = λ n node pos stands turn. (
  λ h. sure_defender_gives n node pos stands turn (sym (ap (λ m. surely_wins m node pos) (add-one n)) ∙ h),
  λ w. ap (λ m. surely_wins m node pos) (add-one n) ∙ sure_defender_from n node pos stands turn w,
)
