-- What a session without helpers and files answers to a line.
use Rattle.std.specs.Prelude.{◌≡◌, ℕ, Bool, true, false, ◌==◌, List, [], Some}
use Rattle.std.specs.List.{list_any}
use Rattle.gtp_rules.specs.Lines.{line_of, line_feed}
use Rattle.machine_rules.specs.Files.{Contents}
use Rattle.machine_rules.specs.Step.{step}
use Rattle.session_core.specs.EngineView.{EngineView}
use Rattle.session_core.specs.Kept.{Kept}
use Rattle.session_core.specs.LineAnswers.{AnswersLine}
use Rattle.session_core.specs.MatcherView.{matcher_of}
use Rattle.session_doors.specs.declared.held.HeldSession.{HeldSession}
use Rattle.session_doors.specs.declared.lines.LineFault.{LineFault}
use Rattle.session_doors.specs.declared.lines.LineFault.TheVariants.{LineFeed, NoMemory}
use Rattle.session_doors.specs.declared.lines.Unanswered.{Unanswered}

-- the text has a line feed
abbrev pub has_feed : List ℕ → Bool
has_feed text = list_any (λ b. b == line_feed) text

-- each file is empty
abbrev pub empty_files : Contents
empty_files name = Some []

-- what a session without helpers keeps, if it missed no file
abbrev pub kept_alone : EngineView → Kept
kept_alone engine = record { engine = engine; helpers = []; missed = [] }

-- The session `old` answered the line of the text by the step of the plain machine without helpers, with every file
-- empty, and became `new`, which has its reply. Matches are found as before.
pub record AnswersText (old : HeldSession) (text : List ℕ) (new : HeldSession) : Type 0 where
  pub line : AnswersLine (step (matcher_of old.matcher) empty_files) (kept_alone old.engine) (line_of text) new.reply
      (kept_alone new.engine)
  pub matcher : new.matcher ≡ old.matcher

-- the fault is that of the text: a line feed if it has one, else too little memory
abbrev pub IsFaultOf : List ℕ → LineFault → Type 0
IsFaultOf text LineFeed = has_feed text ≡ true
IsFaultOf text NoMemory = has_feed text ≡ false

-- the session is as it was, and the fault is that of the text
pub record LeavesUnanswered (old : HeldSession) (text : List ℕ) (left : Unanswered) : Type 0 where
  pub same : left.session ≡ old
  pub fault : IsFaultOf text left.fault
