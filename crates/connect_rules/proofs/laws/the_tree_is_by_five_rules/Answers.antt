use Rattle.std.proofs.Common.{true, false, ap, sym, ◌∙◌, add-one, arith}
use Rattle.std.proofs.lemmas.Bool.{cases_Bool}
use Rattle.go_rules.proofs.Paths.{is_is_in_string-from_fact}
use Rattle.connect_rules.specs.Connection.{can_connect}
use Rattle.connect_rules.proofs.TreeLemmas.{stand_from, stand_gives, apart_from, connects-gone, connects-joined}
use Rattle.connect_rules.proofs.TreeLemmas.{connects-no_plies, own_gives, own_from, other_gives, other_from}
use Rattle.connect_rules.proofs.laws.the_tree_is_by_five_rules.Goals as goal

-- the first rule: a string is gone
pub returns-clause-gone : goal.returns-clause-gone
returns-clause-gone c = grind (arith, cases_Bool, stand_gives, connects-gone)

-- the second rule: the two are one string
pub returns-clause-one_string : goal.returns-clause-one_string
returns-clause-one_string c = grind (arith, connects-joined, stand_from, is_is_in_string-from_fact)

-- the third rule: no ply is left
pub returns-clause-out_of_plies : goal.returns-clause-out_of_plies
returns-clause-out_of_plies c = λ link own pos apart. connects-no_plies link own pos (apart_from link pos apart)

-- the fourth rule: their own colour joins them by some move
pub returns-clause-own_turn : goal.returns-clause-own_turn
returns-clause-own_turn c = λ n link pos stand apart. (
  λ h. own_gives n link pos (stand_from link pos stand) (apart_from link pos apart)
      (ap (λ m. can_connect m link true pos) (sym (add-one n)) ∙ h),
  λ w. ap (λ m. can_connect m link true pos) (add-one n)
      ∙ own_from n link pos (stand_from link pos stand) (apart_from link pos apart) w,
)

-- the fifth rule: the other colour parts them by no move
pub returns-clause-other_turn : goal.returns-clause-other_turn
returns-clause-other_turn c = λ n link pos stand apart. (
  λ h. other_gives n link pos (stand_from link pos stand) (apart_from link pos apart)
      (ap (λ m. can_connect m link false pos) (sym (add-one n)) ∙ h),
  λ w. ap (λ m. can_connect m link false pos) (add-one n)
      ∙ other_from n link pos (stand_from link pos stand) (apart_from link pos apart) w,
)
