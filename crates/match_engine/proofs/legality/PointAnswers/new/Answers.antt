use Rattle.match_engine.proofs.QuestionPoints.{Knows-nothing}
use Rattle.match_engine.proofs.legality.PointAnswers.new.Goals as goal

-- both sets are empty
pub returns : goal.returns
returns c = λ test. Knows-nothing test c.new.result c.new-2.result c.new.ensures c.new-2.ensures
