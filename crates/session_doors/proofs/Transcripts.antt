-- Answers one after another are a run of the plain machine.
use Rattle.std.proofs.Common.{◌≡◌, ◌∙◌, ℕ, Bool, true, false, List, [], map, refl, sym, ap, subst}
use Rattle.std.proofs.lemmas.List.{append-nil}
use Rattle.gtp_rules.specs.Lines.{line_of}
use Rattle.gtp_rules.specs.Transcript.{MayAnswer as answers-by, IsRun}
use Rattle.machine_rules.specs.Machine.{Machine}
use Rattle.machine_rules.specs.Matcher.{Matcher, plain_matcher}
use Rattle.machine_rules.specs.Step.{step}
use Rattle.session_core.specs.EngineView.{machine_alone}
use Rattle.session_core.specs.MatcherView.{matcher_of}
use Rattle.session_core.specs.Replies.{reply_bytes, reply_ends}
use Rattle.session_doors.specs.declared.held.HeldSession.{HeldSession}
use Rattle.session_doors.specs.Answered.{AnswersText, empty_files}
use Rattle.session_doors.specs.Transcripts.{HasAnswered, nothing, next, ending, AnswersAreTranscripts}

-- the plain machine may answer so
answered-by : (matcher : Matcher) (old new : HeldSession) (text : List ℕ) (ends : Bool)
    → matcher_of old.matcher ≡ matcher → reply_ends new.reply ≡ ends → AnswersText old text new
    → answers-by (step matcher empty_files) (machine_alone old.engine) (line_of text) (reply_bytes new.reply)
    (machine_alone new.engine) ends
answered-by matcher old new text ends same told answers =
    subst (λ (e : Bool). answers-by (step matcher empty_files) (machine_alone old.engine) (line_of text)
    (reply_bytes new.reply) (machine_alone new.engine) e) told
    (subst (λ (m : Matcher). answers-by (step m empty_files) (machine_alone old.engine) (line_of text)
    (reply_bytes new.reply) (machine_alone new.engine) (reply_ends new.reply)) same answers.line.reply)

-- from any session on, answers are a run of its machine
run-from : (matcher : Matcher) (first last : HeldSession) (texts : List (List ℕ)) (out : List ℕ) (ended : Bool)
    → matcher_of first.matcher ≡ matcher → HasAnswered first texts out last ended
    → IsRun (step matcher empty_files) (machine_alone first.engine) (map line_of texts) out (machine_alone last.engine)
    ended
run-from matcher first last texts out ended same (nothing held) = (refl, refl, refl)
run-from matcher first last texts out ended same (next held mid end text more rest stops answers goes others) = (
  reply_bytes mid.reply,
  rest,
  machine_alone mid.engine,
  false,
  answered-by matcher held mid text false same goes answers,
  refl,
  run-from matcher mid end more rest stops (ap matcher_of answers.matcher ∙ same) others,
)
run-from matcher first last texts out ended same (ending held end text answers stops) = (
  reply_bytes end.reply,
  [],
  machine_alone end.engine,
  true,
  answered-by matcher held end text true same stops answers,
  sym (append-nil (reply_bytes end.reply)),
  (refl, refl, refl),
)

-- from the first session on
pub answers-are-transcripts : AnswersAreTranscripts
answers-are-transcripts patterns depths cache first last texts out ended begins answered =
    subst (λ (m : Machine). IsRun (step (plain_matcher patterns) empty_files) m (map line_of texts) out
    (machine_alone last.engine) ended) (begins.machine [])
    (run-from (plain_matcher patterns) first last texts out ended begins.matches answered)
