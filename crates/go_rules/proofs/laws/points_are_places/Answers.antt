use Rattle.go_rules.proofs.Places.{on_its_place, at_its_point}
use Rattle.go_rules.proofs.laws.points_are_places.Goals as goal

-- a point has its place
pub returns-clause-of_point : goal.returns-clause-of_point
returns-clause-of_point c = on_its_place

-- a place has its point
pub returns-clause-of_place : goal.returns-clause-of_place
returns-clause-of_place c = at_its_point
