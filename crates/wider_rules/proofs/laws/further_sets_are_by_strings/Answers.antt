use Rattle.wider_rules.proofs.FurtherLaws.{net_gives, beside_gives, rescue_gives, linked_gives, join_gives, cut_gives}
use Rattle.wider_rules.proofs.FurtherLaws.{net_from, beside_from, rescue_from, linked_from, join_from, cut_from}
use Rattle.wider_rules.proofs.FurtherLaws.{cover_gives, cover_from, approach_gives, approach_from}
use Rattle.wider_rules.proofs.laws.further_sets_are_by_strings.Goals as goal

-- Net by the test and in words are one
pub returns-clause-net : goal.returns-clause-net
returns-clause-net c = λ s cells target p on.
    (net_gives s cells target p, λ w. net_from s cells target w.0 p on w.1)

-- and so is Beside
pub returns-clause-beside : goal.returns-clause-beside
returns-clause-beside c = λ most s cells target p on.
    (beside_gives s cells target most p, λ w. beside_from s cells target most w.0 p on w.1 w.2)

-- and Rescue
pub returns-clause-rescue : goal.returns-clause-rescue
returns-clause-rescue c = λ s cells target p on.
    (rescue_gives s cells target p on, λ w. rescue_from s cells target w.0 w.1 p on w.2 w.3)

-- and which stones are linked
pub returns-clause-linked : goal.returns-clause-linked
returns-clause-linked c = λ most s cells target q on on_q.
    (linked_gives s cells target most q on on_q, λ w. linked_from s cells target most w.0 q on w.1)

-- and Join
pub returns-clause-join : goal.returns-clause-join
returns-clause-join c = λ most s cells target p on.
    (join_gives s cells target most p on, λ w. join_from s cells target most w.0 w.1 p on w.2 w.3)

-- and Cut
pub returns-clause-cut : goal.returns-clause-cut
returns-clause-cut c = λ s cells target p on.
    (cut_gives s cells target p on, λ w. cut_from s cells target w.0 w.1 w.2 p on w.3 w.4 w.5)

-- and Cover
pub returns-clause-cover : goal.returns-clause-cover
returns-clause-cover c = λ s cells target p on.
    (cover_gives s cells target p, λ w. cover_from s cells target w.0 w.1 p on w.2)

-- and Approach
pub returns-clause-approach : goal.returns-clause-approach
returns-clause-approach c = λ s cells target p on.
    (approach_gives s cells target p, λ w. approach_from s cells target w.0 w.1 w.2 p on w.3)
