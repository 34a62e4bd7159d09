use Rattle.read_rules.proofs.CandidateLaws.{candidate_gives, candidate_from, candidate_on}
use Rattle.read_rules.proofs.laws.candidates_are_by_strings.Goals as goal

-- the test for a candidate and the sets of the rules are one
pub returns-clause-candidate : goal.returns-clause-candidate
returns-clause-candidate c =
    λ turn pos p on. (candidate_gives turn pos p on, candidate_from turn pos p on)

-- each candidate lies on the board
pub returns-clause-on_board : goal.returns-clause-on_board
returns-clause-on_board c = candidate_on
