-- The session with which a run begins to serve lines.
use Rattle.std.specs.Prelude.{◌≡◌, ℕ, ◌≤◌, List, Option}
use Rattle.pat_types.specs.declared.pattern.Pattern.{Pattern}
use Rattle.gtp_lex.specs.Lines.{LinesState, no_line}
use Rattle.go_options.specs.declared.options.Options.{Options}
use Rattle.read_rules.specs.declared.tree.Tree.{Tree}
use Rattle.match_engine.specs.ReadingDepths.{ReadingDepths}
use Rattle.machine_rules.specs.Machine.{first_machine}
use Rattle.helpers.specs.HelperStates.{SlotState}
use Rattle.machine_rules.specs.Files.{Contents}
use Rattle.session_core.specs.Handed.{helper_names}
use Rattle.machine_rules.specs.Matcher.{Matcher, plain_matcher}
use Rattle.session_core.specs.AfterLine.{IsAfterLine}
use Rattle.session_core.specs.Kept.{Kept, machine_of}
use Rattle.session_core.specs.LineAnswers.{LineStep}
use Rattle.session_core.specs.EngineView.{EngineView, machine_with, no_counts, depths_in}
use Rattle.session.specs.PatternFiles.{IsOpened, IsRefused}
use Rattle.session.specs.Outcomes.{Phase, NotTaken, NotOpened, Served}
use Rattle.session.specs.Ends.{Streams}
use Rattle.session.specs.CountedRuns.{IsServedCounted, IsUncounted}
use Rattle.session.specs.Headline.{ServesLines}
use Rattle.machine_rules.specs.AnsweredLines.{AnsweredLine}
use Rattle.read_cache.specs.Keeping.{first_keeping}
use Rattle.session.specs.Tallies.{Tally, Progress, Advances}
use Rattle.session.specs.Serving.{progress_of}
use Rattle.gtp_rules.specs.Lines.{RawLine}
use Rattle.gtp_rules.specs.Steps.{Step}
use Rattle.session.specs.declared.outcome.End.{End}
use Rattle.session.specs.declared.serve.Ended.{Ended}
use Rattle.run_notes.specs.declared.notes.Counts.{Counts}
use Rattle.run_notes.specs.declared.notes.Sent.{Sent}

-- the session is the first machine with these depths, has counted and cached nothing, and has room for `capacity`
-- questions of readings, at least eight, and as many about connections
pub record IsFirstWith (depths : ReadingDepths) (capacity : ℕ) (session : EngineView) : Type 0 where
  pub machine : (helpers : List SlotState) → machine_with helpers session ≡ first_machine helpers depths
  pub counts : session.counts ≡ no_counts
  pub readings : session.readings.answers ≡ first_keeping capacity
  pub links : session.links.answers ≡ first_keeping capacity
  pub room : 8 ≤ capacity

-- the files of the options, which may name the helpers, were opened; the session is the first one with the depths of
-- the options in a tree, finds the matches of the files' patterns as the plain matcher does, and has these helpers; no
-- line has come
pub record Opens (tree : Tree) (helpers : List SlotState) (contents : Contents) (options : Options)
    (matcher : Matcher) (session : EngineView) (slots : List SlotState) (lines : LinesState) : Type 0 where
  pub patterns : List Pattern
  pub opened : IsOpened (helper_names helpers) contents options.files options.states patterns
  pub first : IsFirstWith (depths_in tree options) options.cache session
  pub matches : matcher ≡ plain_matcher patterns
  pub same : slots ≡ helpers
  pub none : lines ≡ no_line

-- what a run with these options did, by how far it came: its files were not opened, or the lines were served
abbrev pub ReachesPhaseBy : Tree → List SlotState → Options → Contents → List (List ℕ) → List (List ℕ) → Streams
    → Streams → Option Counts → Option Sent → Phase → Type 0
ReachesPhaseBy tree helpers options contents missed now before after counts sent NotTaken = ⊥
ReachesPhaseBy tree helpers options contents missed now before after counts sent (NotOpened error) =
    IsRefused (helper_names helpers) contents options.files options.states error × IsUncounted before after counts sent
ReachesPhaseBy tree helpers options contents missed now before after counts sent (Served end) =
    IsServedCounted tree helpers options contents missed now before after end counts sent

-- the lines were served with a tally, by which the counts rose, and along which what is kept changed
pub record ServesCounting {M : Type 0} (generate : Option ℕ) (step : M → RawLine → Step M → Type 0)
    (goes : Kept → AnsweredLine M → Kept → Type 0) (first : M) (before after : Streams) (end : End)
    (old new : Progress) : Type 0 where
  pub tally : Tally M
  pub serves : ServesLines generate step first before after end tally
  pub advances : Advances goes old new tally

-- A session that kept `old`, and whose outbox had sent `was`, served the lines by this step. The counts and the missed
-- names at the end are those of what it keeps then.
pub record EndsCounting (generate : Option ℕ) (step : LineStep) (old : Kept) (was : Sent)
    (before after : Streams) (ended : Ended) (missed : List (List ℕ)) (now : Sent) : Type 0 where
  pub kept : Kept
  pub same : ended.counts ≡ kept.engine.counts
  pub names : missed ≡ kept.missed
  pub serves : ServesCounting generate step IsAfterLine (machine_of old) before after ended.end
      (progress_of before.written old was) (progress_of after.written kept now)
