-- The answer says what the history answered.
use Rattle.std.proofs.Common.{Err, ap, subst, ◌∙◌}
use Rattle.sure_lines.specs.Answers.{IsAnswer}
use Rattle.sure_lines.specs.BoardCommands.{played}
use Rattle.sure_lines.specs.Machine.{Machine}
use Rattle.sure_lines.specs.SeenMachines.{seen}
use Rattle.sure_lines.proofs.MoveAnswers.{with_game, move_added, move_illegal, move_past_full, move_without_memory}
use Rattle.sure_lines.proofs.machine.SureMachine.play.Goals as goal
use Rattle.sure_lines.proofs.machine.SureMachine.play.Goals.{in-Ok, in-Err-Illegal, in-Err-Full, in-Err-NoMemory}

-- a legal move is added, finds the history full or lacks memory, and an illegal one is refused
pub returns : goal.returns
returns c =
    let kept = seen c.self.inside in
    let new = c.play.new.self in
    let family : Machine → Type 0 = λ old. IsAnswer (played old c.args.m) c.match-play.result old (with_game new kept) in
    subst family c.self.view_is (elim c.match-play.branch as
    (λ _. IsAnswer (played kept c.args.m) c.match-play.result kept (with_game new kept)) [
      | in-Ok w ↦
          move_added kept c.args.m new c.match-play.result w.in-Ok.ensures.ok w.in-Ok.ensures.allowed
          w.in-Ok.ensures.room (w.result-is ∙ w.brief_answer.ensures)
      | in-Err-Illegal w ↦
          let answer = w.in-Err-Illegal in
          move_illegal kept c.args.m new c.match-play.result answer.field-0-0 answer.ensures.err
          ((answer.ensures.illegal answer.field-0-0).0 (ap Err answer.field-0-is)) w.result-is
      | in-Err-Full w ↦
          let answer = w.in-Err-Full in
          let both = answer.ensures.full.0 (ap Err answer.field-0-is) in
          move_past_full kept c.args.m new c.match-play.result answer.ensures.err both.0 both.1 w.result-is
      | in-Err-NoMemory w ↦
          let answer = w.in-Err-NoMemory in
          move_without_memory kept c.args.m new c.match-play.result answer.ensures.err
          (λ e forbidden. let illegal = (answer.ensures.illegal e).1 forbidden in let is = answer.field-0-is in cc)
          (λ both. let full = answer.ensures.full.1 both in let is = answer.field-0-is in cc)
          w.result-is
    ])
