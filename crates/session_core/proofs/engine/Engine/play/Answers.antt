-- The answer says what the history answered.
use Rattle.std.proofs.Common.{Err, ap, subst, ◌∙◌}
use Rattle.machine_rules.specs.BoardCommands.{played}
use Rattle.session_core.specs.EngineView.{EngineView, machine_with}
use Rattle.session_core.specs.CommandAnswers.{IsAnswer}
use Rattle.session_core.specs.SeenEngines.{seen}
use Rattle.session_core.proofs.MoveAnswers.{with_game, move_added, move_illegal, move_past_full, move_without_memory}
use Rattle.session_core.proofs.engine.Engine.play.Goals as goal
use Rattle.session_core.proofs.engine.Engine.play.Goals.{in-Ok, in-Err-Illegal, in-Err-Full, in-Err-NoMemory}

-- a legal move is added, finds the history full or lacks memory, and an illegal one is refused
pub returns-clause-answer : goal.returns-clause-answer
returns-clause-answer c = λ helpers.
    let game = c.self.inside.history in
    let kept = machine_with helpers (seen c.self.inside) in
    let new = c.play.new.self in
    let family : EngineView → Type 0 = λ old. IsAnswer
    (played (machine_with helpers old) c.args.m) c.match-play.result (with_game new kept) in
    subst family c.self.view_is (elim c.match-play.branch as
    (λ _. IsAnswer (played kept c.args.m) c.match-play.result (with_game new kept)) [
      | in-Ok w ↦
          move_added game kept c.args.m new c.match-play.result w.in-Ok.ensures.ok w.in-Ok.ensures.allowed
          w.in-Ok.ensures.room
          (w.result-is ∙ w.brief_answer.ensures)
      | in-Err-Illegal w ↦
          let answer = w.in-Err-Illegal in
          move_illegal game kept c.args.m new c.match-play.result answer.field-0-0 answer.ensures.err
          ((answer.ensures.illegal answer.field-0-0).0 (ap Err answer.field-0-is)) w.result-is
      | in-Err-Full w ↦
          let answer = w.in-Err-Full in
          let both = answer.ensures.full.0 (ap Err answer.field-0-is) in
          move_past_full game kept c.args.m new c.match-play.result answer.ensures.err both.0 both.1 w.result-is
      | in-Err-NoMemory w ↦
          let answer = w.in-Err-NoMemory in
          move_without_memory game kept c.args.m new c.match-play.result answer.ensures.err
          (λ e forbidden. let illegal = (answer.ensures.illegal e).1 forbidden in let is = answer.field-0-is in cc)
          (λ both. let full = answer.ensures.full.1 both in let is = answer.field-0-is in cc)
          w.result-is
    ])
