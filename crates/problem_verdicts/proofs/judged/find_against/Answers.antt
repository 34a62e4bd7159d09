-- What is found against the replies that are tried, or against every reply.
use Rattle.problem_verdicts.proofs.judged.find_against.Goals as goal

-- by the tree of a reading
pub returns-in-Tried : goal.returns-in-Tried
returns-in-Tried c = rw c.in-Tried.is c.find.ensures

-- by sure answers
pub returns-in-Every : goal.returns-in-Every
returns-in-Every c = rw c.in-Every.is c.find_surely.ensures
