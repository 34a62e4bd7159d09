-- The claim of `run`, by its outcome: what its files are, what it took from its source, put on its output and noted.
use Rattle.std.specs.Prelude.{◌≡◌, ◌≢◌, ◌⊎◌, ℕ, ◌<◌, ◌≤◌, true, false, List, [], ◌++◌, length}
use Rattle.std.specs.Prelude.{Option, Some, None, IsSomeAnd, MatchOption, Result, Ok, Err, codes}
use Rattle.std.specs.List.{flat_map}
use Rattle.gtp_io.specs.Outside.{HasRisen}
use Rattle.gtp_rules.specs.Lines.{RawLine}
use Rattle.gtp_rules.specs.Steps.{Step}
use Rattle.pat_types.specs.declared.pattern.Pattern.{Pattern}
use Rattle.helpers.specs.HelperStates.{SlotState}
use Rattle.machine_rules.specs.Loads.{missed_in}
use Rattle.machine_rules.specs.Files.{Contents}
use Rattle.machine_rules.specs.Machine.{Machine, first_machine}
use Rattle.machine_rules.specs.Matcher.{plain_matcher}
use Rattle.machine_rules.specs.Step.{step}
use Rattle.session_core.specs.EngineView.{depths_in}
use Rattle.read_rules.specs.declared.tree.Tree.{Tree}
use Rattle.read_rules.specs.declared.tree.Tree.TheVariants.{Stated}
use Rattle.session.specs.Tallies.{Tally, kept_sum}
use Rattle.session.specs.Ends.{Streams, Serves}
use Rattle.session.specs.PatternFiles.{IsOpened, IsRefused, MissedIn}
use Rattle.session_core.specs.Handed.{helper_names}
use Rattle.session.specs.Notes.{note_of}
use Rattle.go_options.specs.CommandLine.{is_taken, rows_in}
use Rattle.go_options.specs.Found.{AreFound, words_in}
use Rattle.go_options.specs.declared.options.Options.{Options}
use Rattle.workload.specs.GeneratedLines.{generated_text}
use Rattle.run_notes.specs.Notes.{sent_line}
use Rattle.run_notes.specs.Putting.{IsNoted}
use Rattle.run_notes.specs.declared.notes.Sent.{Sent}
use Rattle.session.specs.declared.outcome.OpenError.{OpenError}
use Rattle.session.specs.declared.outcome.OpenError.TheVariants as open_error
use Rattle.session.specs.Outcomes.{Phase, NotTaken, NotOpened, Served, phase_of, unhad}
use Rattle.session.specs.declared.outcome.Outcome.{Outcome}
use Rattle.session.specs.declared.outcome.Outcome.TheVariants as told
use Rattle.session.specs.declared.outcome.WordsError.{WordsError}
use Rattle.session.specs.declared.outcome.End.{End}
use Rattle.session.specs.declared.outcome.End.TheVariants.{InputTooLong}

-- the outside of a run: the files by their names, the missed names, the streams, the notes, and how often these failed
pub record Outside : Type 0 where
  pub contents : Contents
  pub missed : List (List ℕ)
  pub streams : Streams
  pub noted : Option (List ℕ)
  pub notes_faults : ℕ

-- the outside: files have these contents, these names were missed, the streams are these, and the notes hold these
-- bytes and failed this often
abbrev pub outside : Contents → List (List ℕ) → Streams → Option (List ℕ) → ℕ → Outside
outside contents missed streams noted notes_faults = record {
  contents = contents;
  missed = missed;
  streams = streams;
  noted = noted;
  notes_faults = notes_faults;
}

-- the words of the command line are accepted, and give these options
pub record GiveOptions (words : List (List ℕ)) (options : Options) : Type 0 where
  pub taken : is_taken words ≡ true
  pub found : AreFound (rows_in words) options

-- the files of the options were not opened, and the error says why; if memory ran out, nothing more is said
abbrev pub IsUnopened : List SlotState → List (List ℕ) → Contents → OpenError → Type 0
IsUnopened helpers words contents error =
    (error ≡ open_error.NoMemory) ⊎ ((options : Options) × GiveOptions words options
    × IsRefused (helper_names helpers) contents options.files options.states error)

-- Generated lines were served instead of the source, which stays as it was. They have fewer bytes than the longest
-- input.
pub record ServesGenerated {M : Type 0} (n : ℕ) (step : M → RawLine → Step M → Type 0) (first : M)
    (before after : Streams) (end : End) (tally : Tally M) : Type 0 where
  pub left : after.left ≡ before.left
  pub piece : after.piece ≡ before.piece
  pub input_faults : after.input_faults ≡ before.input_faults
  pub generated : (rest : List ℕ) × (last : ℕ) × Serves step first
      (record before { left = Some (generated_text n); piece = 0 })
      (record after { left = Some rest; piece = last }) end tally
  pub not_too_long : end ≢ InputTooLong

-- the lines of the source were served, or n generated lines if the options ask for these
abbrev pub ServesLines : {M : Type 0} → Option ℕ → (M → RawLine → Step M → Type 0) → M → Streams → Streams → End
    → Tally M → Type 0
ServesLines None step first before after end tally = Serves step first before after end tally
ServesLines (Some n) step first before after end tally = ServesGenerated n step first before after end tally

-- if lines are generated, what was sent is noted: the replies of the tally that went out whole, and its bytes
abbrev pub IsSent : {M : Type 0} → Option ℕ → Option Sent → Tally M → Type 0
IsSent generate sent tally = MatchOption generate (sent ≡ None) (λ n. IsSomeAnd sent
    (λ s. (s.lines ≡ kept_sum 0 tally.replies) × (s.bytes ≡ kept_sum 0 (length tally.out))))

-- The files of the options, which may name the helpers, were opened, and the lines were served by the plain machine. It
-- compares each diagram of their patterns with the board, reads in this tree, as deep as the options say, and asks the
-- helpers, whose meanings never change. The names that the loader missed are those that it had missed before, and after
-- them those of the lines answered `cannot load file`, in their order. The notes hold no counts unless the options ask
-- for them; `RunsCountedIn` says which counts they hold.
pub record IsServed (tree : Tree) (helpers : List SlotState) (options : Options) (contents : Contents)
    (missed : List (List ℕ)) (now : List (List ℕ)) (before after : Streams) (end : End) (counts : List ℕ)
    (sent : Option Sent) : Type 0 where
  pub patterns : List Pattern
  pub opened : IsOpened (helper_names helpers) contents options.files options.states patterns
  pub tally : Tally Machine
  pub serves : ServesLines options.generate (step (plain_matcher patterns) contents)
      (first_machine helpers (depths_in tree options)) before after end tally
  pub names : now ≡ missed ++ flat_map missed_in tally.turns
  pub uncounted : options.stats ≡ false → counts ≡ []
  pub told : IsSent options.generate sent tally

-- nothing was taken or put, and the notes hold neither counts nor what was sent
pub record IsUntouched (before after : Streams) (counts : List ℕ) (sent : Option Sent) : Type 0 where
  pub streams : after ≡ before
  pub uncounted : counts ≡ []
  pub unsent : sent ≡ None

-- what a run did, by how far it came: what its words gave, what it served, and the text of counts and what was sent to
-- note
abbrev pub ReachesPhase : Tree → List SlotState → List (List ℕ) → Contents → List (List ℕ) → List (List ℕ) → Streams
    → Streams → List ℕ → Option Sent → Phase → Type 0
ReachesPhase tree helpers words contents missed now before after counts sent NotTaken =
    (is_taken words ≡ false) × IsUntouched before after counts sent
ReachesPhase tree helpers words contents missed now before after counts sent (NotOpened error) =
    IsUnopened helpers words contents error × IsUntouched before after counts sent
ReachesPhase tree helpers words contents missed now before after counts sent (Served end) =
    (options : Options) × GiveOptions words options
    × IsServed tree helpers options contents missed now before after end counts sent

-- the words of a command line that name files
abbrev pub files_in : List (List ℕ) → List (List ℕ)
files_in words = words_in (codes "files") (rows_in words)

-- which names the loader missed before lines were served, by how far a run came; `IsServed` says which it missed later
abbrev pub MissedAfter : List (List ℕ) → List (List ℕ) → List (List ℕ) → Phase → Type 0
MissedAfter names before now NotTaken = now ≡ before
MissedAfter names before now (NotOpened error) = MissedIn names before now error
MissedAfter names before now (Served end) = Unit {0}

-- if a fault is reported, its count rose, as far as a u64 can; if the count rose, the fault is reported
pub record IsCauseOf (fault : Type 0) (before now : ℕ) : Type 0 where
  pub later : before ≤ now
  pub rose : fault → HasRisen before now
  pub told : before < now → fault

-- What a run of these words with these helpers and readings in this tree did, by its outcome. Its notes are a text of
-- counts, then the line of what was sent, and then the note of its outcome.
pub record RunsIn (tree : Tree) (helpers : List SlotState) (words : List (List ℕ)) (before after : Outside)
    (outcome : Outcome) : Type 0 where
  pub counts : List ℕ
  pub sent : Option Sent
  pub came : ReachesPhase tree helpers words before.contents before.missed after.missed before.streams after.streams
      counts sent (phase_of outcome)
  pub missed : MissedAfter (files_in words) before.missed after.missed (phase_of outcome)
  pub same : after.contents ≡ before.contents
  pub input : IsCauseOf (outcome ≡ told.InputFault) before.streams.input_faults after.streams.input_faults
  pub output : IsCauseOf (outcome ≡ told.OutputFault) before.streams.output_faults after.streams.output_faults
  pub notes : IsNoted before.noted after.noted before.notes_faults after.notes_faults
      (counts ++ sent_line sent ++ note_of outcome)

-- what a run of these words with these helpers and readings in the stated tree did
abbrev pub Runs : List SlotState → List (List ℕ) → Outside → Outside → Outcome → Type 0
Runs = RunsIn Stated

-- A run loaded, took and put nothing, and noted how it ended.
pub record DoesNothing (before after : Outside) (outcome : Outcome) : Type 0 where
  pub missed : after.missed ≡ before.missed
  pub same : after.contents ≡ before.contents
  pub streams : after.streams ≡ before.streams
  pub notes : IsNoted before.noted after.noted before.notes_faults after.notes_faults (note_of outcome)

-- what a run with these helpers and readings in this tree did; `texts` gives the bytes of its words, if it has words
abbrev pub RunsHad : {V : Type 0} → Tree → List SlotState → (V → List (List ℕ)) → Result V WordsError → Outside
    → Outside → Outcome → Type 0
RunsHad tree helpers texts (Ok words) before after outcome = RunsIn tree helpers (texts words) before after outcome
RunsHad tree helpers texts (Err error) before after outcome = (outcome ≡ unhad error) × DoesNothing before after outcome
