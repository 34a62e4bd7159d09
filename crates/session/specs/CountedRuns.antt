-- What a run counts of the lines that it answered and writes on its notes: the whole claim of `run`, with the counts
-- that depend on the caches. `Headline` says what a run does, and names no cache.
use Rattle.std.specs.Prelude.{◌≡◌, ℕ, ◌+◌, ◌≤◌, Bool, false, MatchBool, List, [], Option, None, IsSomeAnd, Result, Ok}
use Rattle.std.specs.Prelude.{Err}
use Rattle.helpers.specs.HelperStates.{SlotState}
use Rattle.machine_rules.specs.LinkQuestions.{connections_in}
use Rattle.machine_rules.specs.Files.{Contents}
use Rattle.machine_rules.specs.Machine.{Machine}
use Rattle.machine_rules.specs.AnsweredLines.{AnsweredLine, IsAlong}
use Rattle.machine_rules.specs.Counting.{readings_in}
use Rattle.machine_rules.specs.Questions.{AskNothing}
use Rattle.machine_rules.specs.CertainHit.{HaveCertainHits}
use Rattle.read_cache.specs.Keeping.{first_keeping}
use Rattle.read_rules.specs.declared.tree.Tree.{Tree}
use Rattle.read_rules.specs.declared.tree.Tree.TheVariants.{Stated}
use Rattle.session_core.specs.AfterLine.{IsAfterLine, of_readings}
use Rattle.session_core.specs.Kept.{Kept}
use Rattle.session_core.specs.EngineView.{no_counts}
use Rattle.go_options.specs.CommandLine.{is_taken}
use Rattle.go_options.specs.declared.options.Options.{Options}
use Rattle.run_notes.specs.Notes.{counts_line, notes_text}
use Rattle.run_notes.specs.Putting.{IsNoted}
use Rattle.run_notes.specs.declared.notes.Counts.{Counts}
use Rattle.run_notes.specs.declared.notes.Sent.{Sent}
use Rattle.session.specs.Ends.{Streams}
use Rattle.session.specs.Headline.{DoesNothing, GiveOptions, IsCauseOf, IsServed, IsUnopened, IsUntouched, MissedAfter}
use Rattle.session.specs.Headline.{Outside, files_in}
use Rattle.session.specs.Notes.{note_of}
use Rattle.session.specs.Outcomes.{Phase, NotTaken, NotOpened, Served, phase_of, unhad}
use Rattle.session.specs.Tallies.{Tally}
use Rattle.session.specs.declared.outcome.End.{End}
use Rattle.session.specs.declared.outcome.Outcome.{Outcome}
use Rattle.session.specs.declared.outcome.Outcome.TheVariants as told
use Rattle.session.specs.declared.outcome.WordsError.{WordsError}

-- A session that starts with no counts and empty caches, with room for `capacity` questions of readings and as many
-- about connections, has these counts after the lines.
pub record RoseAlong (capacity : ℕ) (turns : List (AnsweredLine Machine)) (counts : Counts) : Type 0 where
  pub first : Kept
  pub last : Kept
  pub uncounted : first.engine.counts ≡ no_counts
  pub readings : first.engine.readings.answers ≡ first_keeping capacity
  pub links : first.engine.links.answers ≡ first_keeping capacity
  pub along : IsAlong IsAfterLine first turns last
  pub same : counts ≡ last.engine.counts

-- The counts are those of these lines. Each line that asks for a reading and is answered with a code is counted, and at
-- most as many readings are fresh. If every reading could be cached, certain hits are not fresh: with n of them, at
-- most the other readings are. If no reading was fresh, no trial play was made. If no line asks for a reading or for
-- matches, nothing is counted of readings. Each line that asks about a connection and is answered with a result is
-- counted, and at most as many connections are fresh. The counts rose line by line, as those of a session with room for
-- `capacity` cached questions.
pub record AreCountsOf (capacity : ℕ) (turns : List (AnsweredLine Machine)) (counts : Counts) : Type 0 where
  pub readings : counts.readings ≡ readings_in turns
  pub fresh : counts.fresh ≤ counts.readings
  pub hits : counts.refused ≡ 0 → (n : ℕ) → HaveCertainHits [] turns n → counts.fresh + n ≤ counts.readings
  pub untried : counts.fresh ≡ 0 → counts.trials ≡ 0
  pub idle : AskNothing turns → of_readings counts ≡ no_counts
  pub connections : counts.links.connections ≡ connections_in turns
  pub fresh_links : counts.links.fresh ≤ counts.links.connections
  pub rose : RoseAlong capacity turns counts

-- counts are noted exactly if they are asked for, and are those of the lines of the tally
abbrev pub AreCounts : Bool → ℕ → Option Counts → Tally Machine → Type 0
AreCounts asked capacity counts tally =
    MatchBool asked (IsSomeAnd counts (AreCountsOf capacity tally.turns)) (counts ≡ None)

-- the lines were served, and the notes hold the counts of these lines if the options ask for them
pub record IsServedCounted (tree : Tree) (helpers : List SlotState) (options : Options) (contents : Contents)
    (missed : List (List ℕ)) (now : List (List ℕ)) (before after : Streams) (end : End) (counts : Option Counts)
    (sent : Option Sent) : Type 0 where
  pub served : IsServed tree helpers options contents missed now before after end (counts_line counts) sent
  pub counted : AreCounts options.stats options.cache counts served.tally

-- nothing was taken or put, and the notes hold neither counts nor what was sent
pub record IsUncounted (before after : Streams) (counts : Option Counts) (sent : Option Sent) : Type 0 where
  pub untouched : IsUntouched before after (counts_line counts) sent
  pub uncounted : counts ≡ None

-- what a run did, by how far it came: what its words gave, what it served, and the counts and what was sent to note
abbrev pub ReachesPhaseCounted : Tree → List SlotState → List (List ℕ) → Contents → List (List ℕ) → List (List ℕ)
    → Streams → Streams → Option Counts → Option Sent → Phase → Type 0
ReachesPhaseCounted tree helpers words contents missed now before after counts sent NotTaken =
    (is_taken words ≡ false) × IsUncounted before after counts sent
ReachesPhaseCounted tree helpers words contents missed now before after counts sent (NotOpened error) =
    IsUnopened helpers words contents error × IsUncounted before after counts sent
ReachesPhaseCounted tree helpers words contents missed now before after counts sent (Served end) =
    (options : Options) × GiveOptions words options
    × IsServedCounted tree helpers options contents missed now before after end counts sent

-- what a run of these words with these helpers and readings in this tree did, by its outcome, and what it counted
pub record RunsCountedIn (tree : Tree) (helpers : List SlotState) (words : List (List ℕ)) (before after : Outside)
    (outcome : Outcome) : Type 0 where
  pub counts : Option Counts
  pub sent : Option Sent
  pub came : ReachesPhaseCounted tree helpers words before.contents before.missed after.missed before.streams
      after.streams counts sent (phase_of outcome)
  pub missed : MissedAfter (files_in words) before.missed after.missed (phase_of outcome)
  pub same : after.contents ≡ before.contents
  pub input : IsCauseOf (outcome ≡ told.InputFault) before.streams.input_faults after.streams.input_faults
  pub output : IsCauseOf (outcome ≡ told.OutputFault) before.streams.output_faults after.streams.output_faults
  pub notes : IsNoted before.noted after.noted before.notes_faults after.notes_faults
      (notes_text counts sent (note_of outcome))

-- what a run of these words with these helpers and readings in the stated tree did, and what it counted
abbrev pub RunsCounted : List SlotState → List (List ℕ) → Outside → Outside → Outcome → Type 0
RunsCounted = RunsCountedIn Stated

-- what a run with these helpers and readings in this tree did, and what it counted; `texts` gives the bytes of its
-- words, if it has words
abbrev pub RunsHadCounted : {V : Type 0} → Tree → List SlotState → (V → List (List ℕ)) → Result V WordsError → Outside
    → Outside → Outcome → Type 0
RunsHadCounted tree helpers texts (Ok words) before after outcome =
    RunsCountedIn tree helpers (texts words) before after outcome
RunsHadCounted tree helpers texts (Err error) before after outcome =
    (outcome ≡ unhad error) × DoesNothing before after outcome
