-- A sure capture stays sure.
use Rattle.std.proofs.Common.{arith}
use Rattle.sure_rules.proofs.StayLemmas.{stays_sure, no_harder-refl}
use Rattle.sure_rules.proofs.WiderLemmas.{more_stones_in_wider, never_taken_back}
use Rattle.sure_rules.proofs.laws.sure_captures_stay_sure.Goals as goal

-- with one ply more
pub returns-clause-more_plies : goal.returns-clause-more_plies
returns-clause-more_plies c = grind (arith, stays_sure, no_harder-refl)

-- of a string of two stones or more in the wider tree
pub returns-clause-wider_tree : goal.returns-clause-wider_tree
returns-clause-wider_tree c = more_stones_in_wider

-- and of a stone that is never taken back
pub returns-clause-never_taken_back : goal.returns-clause-never_taken_back
returns-clause-never_taken_back c = never_taken_back

-- with more plies, from a node that gives the attacker at least as much
pub returns-clause-no_harder : goal.returns-clause-no_harder
returns-clause-no_harder c = stays_sure
