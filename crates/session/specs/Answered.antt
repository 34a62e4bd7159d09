-- What a session has done with lines: their replies are out or wait, or the output failed within one of the replies.
use Rattle.std.specs.Prelude.{◌≡◌, ◌⊎◌, ℕ, Bool, List, Option}
use Rattle.gtp_rules.specs.Lines.{RawLine}
use Rattle.gtp_rules.specs.Steps.{Step}
use Rattle.machine_rules.specs.AnsweredLines.{AnsweredLine}
use Rattle.session_core.specs.AfterLine.{IsAfterLine}
use Rattle.session_core.specs.Kept.{Kept, machine_of}
use Rattle.session_core.specs.LineAnswers.{LineStep}
use Rattle.session.specs.Tallies.{Progress}
use Rattle.session.specs.Serving.{RunsTo, RunsPart, progress_of}
use Rattle.session.specs.Waiting.{OutboxState, OutputState, output_of, holds_with, sent_with, Stop, IsStop}

-- the state of a run: what its session keeps, and its output
pub record Standing : Type 0 where
  pub kept : Kept
  pub output : OutputState

-- the state of a run whose session keeps this and whose output is this
abbrev pub standing_at : Kept → OutputState → Standing
standing_at kept output = record { kept = kept; output = output }

-- the state of a run whose session keeps this, whose output holds these bytes, and whose outbox is this
abbrev pub standing : Kept → Option (List ℕ) → OutboxState → Standing
standing kept written outbox = standing_at kept (output_of written outbox)

-- the progress of a run, without its waiting replies
abbrev pub progress_at : Standing → Progress
progress_at now = progress_of now.output.written now.kept now.output.sent

-- the progress of a run, once its waiting replies are out
abbrev pub progress_with : Standing → Progress
progress_with now = progress_of (holds_with now.output) now.kept (sent_with now.output)

-- The output failed within a reply to one of these lines. The counts after that line are noted, and these names were
-- missed up to it.
pub record CutsShort {M : Type 0} (step : M → RawLine → Step M → Type 0) (goes : Kept → AnsweredLine M → Kept → Type 0)
    (from : M) (lines : List RawLine) (old : Progress) (stop : Stop) (missed : List (List ℕ)) : Type 0 where
  pub kept : Kept
  pub same : stop.counts ≡ kept.engine.counts
  pub names : missed ≡ kept.missed
  pub runs : RunsPart step goes from lines old (progress_of stop.written kept stop.sent)

-- the output may fail within the waiting replies, and then no more names were missed; or within a later reply, to one
-- of these lines
abbrev pub MayCut : {M : Type 0} → (M → RawLine → Step M → Type 0) → (Kept → AnsweredLine M → Kept → Type 0) → M
    → List RawLine → Standing → Stop → List (List ℕ) → Type 0
MayCut step goes from lines old stop missed = (IsStop old.output stop × (missed ≡ old.kept.missed))
    ⊎ CutsShort step goes from lines (progress_with old) stop missed

-- The lines were answered whole by this step. Their replies are out or wait; if the output fails from now on, it does
-- so within the replies that waited before or within one of these.
pub record Answered (step : LineStep) (lines : List RawLine) (ended : Bool) (old new : Standing) : Type 0 where
  pub runs : RunsTo step IsAfterLine (machine_of old.kept) lines (machine_of new.kept) ended (progress_with old)
      (progress_with new)
  pub stops : (stop : Stop) → IsStop new.output stop
      → MayCut step IsAfterLine (machine_of old.kept) lines old stop new.kept.missed

-- the output failed within the replies that waited, or within a reply to one of the lines
pub record BreaksIn (step : LineStep) (lines : List RawLine) (old : Standing) (stop : Stop)
    (missed : List (List ℕ)) : Type 0 where
  pub cut : MayCut step IsAfterLine (machine_of old.kept) lines old stop missed

-- no reply waited, the lines were answered whole by this step, and their replies are out
pub record AnsweredOut (step : LineStep) (lines : List RawLine) (ended : Bool) (old new : Standing) : Type 0 where
  pub runs : RunsTo step IsAfterLine (machine_of old.kept) lines (machine_of new.kept) ended (progress_at old)
      (progress_at new)

-- no reply waited, and the output failed within a reply to one of the lines
pub record BreaksOut (step : LineStep) (lines : List RawLine) (old : Standing) (stop : Stop)
    (missed : List (List ℕ)) : Type 0 where
  pub cut : CutsShort step IsAfterLine (machine_of old.kept) lines (progress_at old) stop missed
