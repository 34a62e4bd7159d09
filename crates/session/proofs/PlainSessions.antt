-- Sessions before their first line, and the plain machine.
use Rattle.std.proofs.Common.{◌≡◌, ℕ, ◌≤◌, List, Option, Result, IfOk, IfErr, subst, arith}
use Rattle.pat_types.specs.declared.pattern.Pattern.{Pattern}
use Rattle.helpers.specs.HelperStates.{SlotState}
use Rattle.match_engine.specs.ReadingDepths.{ReadingDepths}
use Rattle.machine_rules.specs.Files.{Contents}
use Rattle.machine_rules.specs.Machine.{Machine, first_machine}
use Rattle.machine_rules.specs.Matcher.{Matcher, plain_matcher}
use Rattle.machine_rules.specs.Step.{step}
use Rattle.session.specs.Tallies.{Tally}
use Rattle.session_core.specs.EngineView.{EngineView, machine_with, first_kept}
use Rattle.session_core.specs.Handed.{helper_names}
use Rattle.gtp_lex.specs.Lines.{LinesState}
use Rattle.go_options.specs.declared.options.Options.{Options}
use Rattle.read_rules.specs.declared.tree.Tree.{Tree}
use Rattle.session.specs.FirstSession.{IsFirstWith, Opens}
use Rattle.session.specs.PatternFiles.{IsRefused}
use Rattle.session.specs.declared.outcome.OpenError.{OpenError}
use Rattle.session.specs.Ends.{Streams}
use Rattle.session.specs.Headline.{ServesLines}
use Rattle.session.specs.declared.outcome.End.{End}

-- a session before its first line is the first one with its depths
pub first-with : (depths : ReadingDepths) (capacity : ℕ) → 8 ≤ capacity
    → IsFirstWith depths capacity (first_kept depths capacity)
first-with depths capacity room = grind arith

-- a session that is the first one, with the plain matcher of some patterns, served the lines as the plain machine does
pub ServesLines-plain : (patterns : List Pattern) (depths : ReadingDepths) (capacity : ℕ) (matcher : Matcher)
    (session : EngineView) (slots helpers : List SlotState) (contents : Contents) (generate : Option ℕ)
    (before after : Streams) (end : End) (tally : Tally Machine) → IsFirstWith depths capacity session
    → matcher ≡ plain_matcher patterns → slots ≡ helpers
    → ServesLines generate (step matcher contents) (machine_with slots session) before after end tally
    → ServesLines generate (step (plain_matcher patterns) contents) (first_machine helpers depths) before after end
    tally
ServesLines-plain patterns depths capacity matcher session slots helpers contents generate before after end tally first
    matches same serves =
    let by_plain =
    subst (λ k. ServesLines generate (step k contents) (machine_with slots session) before after end tally) matches
    serves in
    subst (λ m. ServesLines generate (step (plain_matcher patterns) contents) m before after end tally)
    (first.machine helpers)
    (subst (λ h. ServesLines generate (step (plain_matcher patterns) contents) (machine_with h session) before after end
    tally) same by_plain)

-- what was opened with some helpers was opened with those that equal them
pub opens-handed : {V E : Type 0} (tree : Tree) (a b : List SlotState) (contents : Contents) (options : Options)
    (matcher : V → Matcher) (engine : V → EngineView) (slots : V → List SlotState) (lines : V → LinesState)
    (result : Result V E) → a ≡ b
    → IfOk result (λ v. Opens tree a contents options (matcher v) (engine v) (slots v) (lines v))
    → IfOk result (λ v. Opens tree b contents options (matcher v) (engine v) (slots v) (lines v))
opens-handed tree a b contents options matcher engine slots lines result same opens = grind arith

-- what was refused with some helpers was refused with those that equal them
pub refused-handed : {T : Type 0} (a b : List SlotState) (contents : Contents) (names : List (List ℕ)) (most : ℕ)
    (result : Result T OpenError) → a ≡ b → IfErr result (IsRefused (helper_names a) contents names most)
    → IfErr result (IsRefused (helper_names b) contents names most)
refused-handed a b contents names most result same refused = grind arith
