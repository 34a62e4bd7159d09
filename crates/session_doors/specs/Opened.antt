-- Which session is opened, and why none is.
use Rattle.std.specs.Prelude.{◌≡◌, ℕ, List, length, Option, Some, None}
use Rattle.helpers.specs.HelperStates.{SlotState}
use Rattle.pat_types.specs.declared.pattern.Pattern.{Pattern}
use Rattle.match_engine.specs.ReadingDepths.{ReadingDepths}
use Rattle.machine_rules.specs.Machine.{first_machine}
use Rattle.machine_rules.specs.Matcher.{plain_matcher}
use Rattle.read_cache.specs.Keeping.{first_keeping}
use Rattle.session_core.specs.EngineView.{machine_with, no_counts}
use Rattle.session_core.specs.MatcherView.{matcher_of}
use Rattle.session_core.specs.declared.reply.Reply.TheVariants.{Nothing}
use Rattle.match_doors.specs.Patterns.{AreOpened, IsRefused}
use Rattle.match_doors.specs.Matching.{depths_named}
use Rattle.session_doors.specs.declared.held.HeldSession.{HeldSession}
use Rattle.session_doors.specs.declared.opening.OpenedSession.{OpenedSession}
use Rattle.session_doors.specs.declared.opening.OpenFault.{OpenFault}
use Rattle.session_doors.specs.declared.opening.OpenFault.TheVariants.{Patterns}
use Rattle.session_doors.specs.declared.options.SessionOptions.{SessionOptions}
use Rattle.session_doors.specs.Options.{options_fault}

-- The session is the one with which the program begins to serve lines: the plain machine with these patterns and
-- depths, which has counted and cached nothing, with room for `cache` questions of readings and as many about
-- connections. No line was answered.
pub record IsFirst (patterns : List Pattern) (depths : ReadingDepths) (cache : ℕ) (held : HeldSession) : Type 0 where
  pub machine : (helpers : List SlotState) → machine_with helpers held.engine ≡ first_machine helpers depths
  pub matches : matcher_of held.matcher ≡ plain_matcher patterns
  pub counts : held.engine.counts ≡ no_counts
  pub readings : held.engine.readings.answers ≡ first_keeping cache
  pub links : held.engine.links.answers ≡ first_keeping cache
  pub reply : held.reply ≡ Nothing

-- the session is the first one with the patterns of the text, which have at most this many states, and `opened` says
-- how many patterns there are
pub record IsFirstOf (text : List ℕ) (states : ℕ) (depths : ReadingDepths) (cache : ℕ)
    (opened : OpenedSession) : Type 0 where
  pub patterns : List Pattern
  pub read : AreOpened text states patterns
  pub first : IsFirst patterns depths cache opened.session
  pub count : opened.patterns ≡ length patterns

-- the options have no fault, and the session is the first one with them and with the patterns of the text
pub record IsOpened (text : List ℕ) (options : SessionOptions) (opened : OpenedSession) : Type 0 where
  pub faultless : options_fault options ≡ None
  pub first : IsFirstOf text options.states (depths_named options.depths) options.cache opened

-- the fault is one of the text, which gives no patterns with at most this many states
abbrev pub IsRefusedAs : List ℕ → ℕ → OpenFault → Type 0
IsRefusedAs text states (Patterns fault) = IsRefused text states fault
IsRefusedAs text states _ = ⊥

-- the fault is the first one of the options, or else one of the text
abbrev pub RefusesBy : List ℕ → ℕ → Option OpenFault → OpenFault → Type 0
RefusesBy text states (Some first) fault = fault ≡ first
RefusesBy text states None fault = IsRefusedAs text states fault

-- the fault is the first one of the options and the text
abbrev pub Refuses : List ℕ → SessionOptions → OpenFault → Type 0
Refuses text options fault = RefusesBy text options.states (options_fault options) fault
