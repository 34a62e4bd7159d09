use Rattle.wider_rules.proofs.FurtherLaws.{net_gives, beside_gives, rescue_gives, join_gives, cut_gives}
use Rattle.wider_rules.proofs.FurtherLaws.{cover_gives, approach_gives}
use Rattle.wider_rules.proofs.FurtherPlaces.{net_second, beside_second, rescue_third, join_third, cut_fourth}
use Rattle.wider_rules.proofs.FurtherPlaces.{cover_third, approach_fourth, further_near}
use Rattle.wider_rules.proofs.laws.further_candidates_lie_near.Goals as goal

-- Net lies in the second area
pub returns-clause-net : goal.returns-clause-net
returns-clause-net c = λ s cells target p on h.
    let w = net_gives s cells target p h in
    net_second s cells target on w.0 p w.1

-- and so does Beside
pub returns-clause-beside : goal.returns-clause-beside
returns-clause-beside c = λ most s cells target p on h.
    let w = beside_gives s cells target most p h in
    beside_second s cells target on most w.0 p w.1 w.2

-- Rescue lies in the third
pub returns-clause-rescue : goal.returns-clause-rescue
returns-clause-rescue c = λ s cells target p on h.
    let w = rescue_gives s cells target p on h in
    rescue_third s cells target on w.0 w.1 p w.2 w.3

-- and so does Join
pub returns-clause-join : goal.returns-clause-join
returns-clause-join c = λ most s cells target p on h.
    let w = join_gives s cells target most p on h in
    join_third s cells target on most w.0 w.1 p w.2 w.3

-- and so does Cover
pub returns-clause-cover : goal.returns-clause-cover
returns-clause-cover c = λ s cells target p on h.
    let w = cover_gives s cells target p h in
    cover_third s cells target on w.0 w.1 p w.2

-- Cut lies in the fourth
pub returns-clause-cut : goal.returns-clause-cut
returns-clause-cut c = λ s cells target p on h.
    let w = cut_gives s cells target p on h in
    cut_fourth s cells target on w.0 w.1 w.2 p w.3 w.4 w.5

-- and Approach
pub returns-clause-approach : goal.returns-clause-approach
returns-clause-approach c = λ s cells target p on h.
    let w = approach_gives s cells target p h in
    approach_fourth s cells target on w.0 w.1 w.2 p w.3

-- each further candidate lies near
pub returns-clause-further : goal.returns-clause-further
returns-clause-further c = λ wide attacker s cells target p on h. further_near s cells target on wide attacker p h
