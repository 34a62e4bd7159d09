-- What is told of the stone at a point.
use Rattle.std.proofs.Common.{◌≡◌, ℕ, true, List, ap, arith}
use Rattle.machine_rules.specs.Counting.{has_stone}
use Rattle.machine_rules.specs.Machine.{Machine}
use Rattle.machine_rules.specs.ReadingCommands.{answer_text, read, reading_of}
use Rattle.match_engine.specs.ReadingDepths.{ReadingDepths}
use Rattle.helpers.specs.HelperStates.{SlotState}
use Rattle.read_rules.specs.declared.question.Kind.{Kind}
use Rattle.session_core.specs.EngineView.{EngineView, machine_alone, machine_with}
use Rattle.session_core.specs.CommandAnswers.{IsAnswer}
use Rattle.session_core.specs.declared.answer.Answer.{Answer}
use Rattle.session_core.specs.declared.answer.Answer.TheVariants as answer

-- a machine with the depths that it has
pub depths-kept : (m : Machine) (depths : ReadingDepths) → depths ≡ m.depths → record m { depths = depths } ≡ m
depths-kept m depths same = ap (λ d. record m { depths = d }) same

-- where a stone stands, the text of its reading is an answer, whoever the helpers are
pub succeeded-read : (session : EngineView) (kind : Kind) (p : ℕ) → has_stone (machine_alone session) p ≡ true
    → (helpers : List SlotState) (text : List ℕ) (said : Answer) (new : Machine) → said ≡ answer.Brief text
    → text ≡ answer_text session.base.size (reading_of (machine_alone session) kind p)
    → new ≡ machine_with helpers session → IsAnswer (read (machine_with helpers session) kind p) said new
succeeded-read session kind p stone helpers text said new says is keeps = grind arith
