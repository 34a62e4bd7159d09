-- What a run over a feed, a page and a shelf in memory does.
use Rattle.std.specs.Prelude.{◌≡◌, ℕ, false, List, ◌++◌, Option, Some, None}
use Rattle.gtp_rules.specs.Lines.{RawLine}
use Rattle.gtp_rules.specs.Steps.{Step}
use Rattle.go_options.specs.CommandLine.{is_taken}
use Rattle.go_options.specs.declared.options.Options.{Options}
use Rattle.workload.specs.GeneratedLines.{generated_text}
use Rattle.pat_types.specs.declared.pattern.Pattern.{Pattern}
use Rattle.machine_rules.specs.Files.{Contents}
use Rattle.machine_rules.specs.Step.{step}
use Rattle.machine_rules.specs.Machine.{first_machine}
use Rattle.machine_rules.specs.Matcher.{plain_matcher}
use Rattle.helpers.specs.HelperStates.{SlotState}
use Rattle.session_core.specs.Handed.{helper_names}
use Rattle.session_core.specs.EngineView.{depths_in}
use Rattle.read_rules.specs.declared.tree.Tree.TheVariants.{Stated}
use Rattle.session.specs.PatternFiles.{IsOpened}
use Rattle.session.specs.Outcomes.{Phase, NotTaken, NotOpened, Served}
use Rattle.session.specs.Ends.{IsRight}
use Rattle.session.specs.Headline.{GiveOptions, IsUnopened}
use Rattle.session.specs.declared.outcome.End.{End}

-- a front of the input was taken, so that rest is left and the last call gave piece bytes, and bytes were appended to
-- the old ones of the page, as the end of the run says
pub record ServesBytes {M : Type 0} (step : M → RawLine → Step M → Type 0) (first : M) (input rest old new : List ℕ)
    (piece : ℕ) (end : End) : Type 0 where
  pub taken : List ℕ
  pub put : List ℕ
  pub reads : input ≡ taken ++ rest
  pub writes : new ≡ old ++ put
  pub right : IsRight step first (Some rest) taken put piece end

-- the bytes of the feed were served; or, if lines are to be generated, the bytes of these lines were served and the
-- feed was left alone
abbrev pub ServesEither : {M : Type 0} → Option ℕ → (M → RawLine → Step M → Type 0) → M → List ℕ → List ℕ → List ℕ
    → List ℕ → ℕ → End → Type 0
ServesEither None step first input rest old new piece end = ServesBytes step first input rest old new piece end
ServesEither (Some n) step first input rest old new piece end =
    (rest ≡ input) × ((unread : List ℕ) × (last : ℕ) × ServesBytes step first
    (generated_text n) unread old new last end)

-- the words gave options, the files were opened, and the lines were served by the plain machine with these helpers;
-- rest is what the feed has left, and piece is how many bytes it gave last
pub record ServesInMemory (helpers : List SlotState) (words : List (List ℕ)) (contents : Contents)
    (input rest old new : List ℕ) (piece : ℕ)
    (end : End) : Type 0 where
  pub options : Options
  pub given : GiveOptions words options
  pub patterns : List Pattern
  pub opened : IsOpened (helper_names helpers) contents options.files options.states patterns
  pub serves : ServesEither options.generate (step (plain_matcher patterns) contents)
      (first_machine helpers (depths_in Stated options))
      input rest old new piece end

-- what holds if a run came to this phase; before it serves lines, a run takes nothing from the feed and puts nothing
abbrev pub ComesTo : List SlotState → List (List ℕ) → Contents → List ℕ → List ℕ → List ℕ → List ℕ → ℕ
    → Phase → Type 0
ComesTo helpers words contents input rest old new piece NotTaken =
    (is_taken words ≡ false) × (rest ≡ input) × (new ≡ old)
ComesTo helpers words contents input rest old new piece (NotOpened error) =
    IsUnopened helpers words contents error × (rest ≡ input)
    × (new ≡ old)
ComesTo helpers words contents input rest old new piece (Served end) =
    ServesInMemory helpers words contents input rest old new piece end
