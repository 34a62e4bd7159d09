-- What a session answers to lines, one after another.
use Rattle.std.specs.Prelude.{◌≡◌, ℕ, Bool, true, false, List, [], ◌∷◌, ◌++◌, map}
use Rattle.gtp_rules.specs.Lines.{line_of}
use Rattle.gtp_rules.specs.Transcript.{IsRun}
use Rattle.pat_types.specs.declared.pattern.Pattern.{Pattern}
use Rattle.match_engine.specs.ReadingDepths.{ReadingDepths}
use Rattle.machine_rules.specs.Machine.{first_machine}
use Rattle.machine_rules.specs.Matcher.{plain_matcher}
use Rattle.machine_rules.specs.Step.{step}
use Rattle.session_core.specs.EngineView.{machine_alone}
use Rattle.session_core.specs.Replies.{reply_bytes, reply_ends}
use Rattle.session_doors.specs.declared.held.HeldSession.{HeldSession}
use Rattle.session_doors.specs.Answered.{AnswersText, empty_files}
use Rattle.session_doors.specs.Opened.{IsFirst}

-- The session `first` answered the texts one after another with `out`, and `last` is the session after them. Only the
-- last text may end the session, and `ended` says whether it does.
pub data HasAnswered : HeldSession → List (List ℕ) → List ℕ → HeldSession → Bool → Type 0 where
  nothing : (held : HeldSession) → HasAnswered held [] [] held false
  next : (first mid last : HeldSession) (text : List ℕ) (texts : List (List ℕ)) (out : List ℕ) (ended : Bool)
      → AnswersText first text mid → reply_ends mid.reply ≡ false → HasAnswered mid texts out last ended
      → HasAnswered first (text ∷ texts) (reply_bytes mid.reply ++ out) last ended
  ending : (first last : HeldSession) (text : List ℕ) → AnswersText first text last → reply_ends last.reply ≡ true
      → HasAnswered first (text ∷ []) (reply_bytes last.reply) last true

-- what a session answers to texts from its beginning is a transcript of their lines, by the plain machine with its
-- patterns and depths, without helpers and with every file empty
abbrev pub AnswersAreTranscripts : Type 0
AnswersAreTranscripts = (patterns : List Pattern) (depths : ReadingDepths) (cache : ℕ) (first last : HeldSession)
    (texts : List (List ℕ)) (out : List ℕ) (ended : Bool)
    → IsFirst patterns depths cache first → HasAnswered first texts out last ended
    → IsRun (step (plain_matcher patterns) empty_files) (first_machine [] depths) (map line_of texts) out
    (machine_alone last.engine) ended
