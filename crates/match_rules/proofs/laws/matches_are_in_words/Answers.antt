use Rattle.match_rules.proofs.MatchLists.{are_matches, only_matches}
use Rattle.match_rules.proofs.laws.matches_are_in_words.Goals as goal

-- members and order are those of the ranges that the list is made of
pub returns-clause-matches : goal.returns-clause-matches
returns-clause-matches c = are_matches

-- two lists in order with the same elements are the same
pub returns-clause-only : goal.returns-clause-only
returns-clause-only c = only_matches
