-- One call of the readings was made on the session's board, and was counted.
use Rattle.std.proofs.Common.{ap, ◌∙◌, rules, arith}
use Rattle.session_core.specs.EngineView.{machine_with}
use Rattle.session_core.proofs.StoneAnswers.{depths-kept, succeeded-read}
use Rattle.session_core.proofs.engine.Engine.read.Goals as goal

-- attack or defend on a stone makes one reading, of the session's position and at the session's depths
pub returns-clause-read : goal.returns-clause-read
returns-clause-read c = grind arith

-- its answer is told
pub returns-clause-answer : goal.returns-clause-answer
returns-clause-answer c = λ helpers.
    succeeded-read c.args.self.now c.args.kind c.args.p (search rules) helpers c.answer_text.result c.text_answer.result
    (machine_with helpers c.count_reading.new.self) c.text_answer.ensures (search rules)
    (c.count_reading.ensures.machine helpers ∙ depths-kept _ _ c.read-answer.ensures.read.depths
    ∙ ap (machine_with helpers) c.self.view_is)
