-- Without helpers a line leaves none.
use Rattle.std.proofs.Common.{◌≡◌, ℕ, Bool, true, false, cond, List, [], ◌∷◌, map, Option, None, Some, Result, Ok, Err}
use Rattle.std.proofs.Common.{inl, inr, ap, refl, sym, subst, ◌∙◌}
use Rattle.go_rules.specs.declared.Colour.{Colour}
use Rattle.go_rules.specs.declared.Move.{Move}
use Rattle.go_rules.specs.Position.{BoardState}
use Rattle.go_rules.specs.Strings.{cell_at, is_stone}
use Rattle.gtp_rules.specs.Lines.{RawLine}
use Rattle.gtp_rules.specs.Steps.{Step}
use Rattle.gtp_rules.specs.Transcript.{IsOneOf, MayGive}
use Rattle.gtp_cmd.specs.declared.commands.Command.{Command}
use Rattle.gtp_cmd.specs.declared.commands.Command.TheVariants as command
use Rattle.gtp_cmd.specs.declared.commands.Parsed.{Parsed}
use Rattle.gtp_cmd.specs.declared.commands.Parsed.TheVariants as parsed
use Rattle.gtp_cmd.specs.declared.refusals.RefuseText.{RefuseText}
use Rattle.gtp_cmd.specs.declared.refusals.RefuseText.TheVariants.{VertexEmpty}
use Rattle.connect_rules.specs.declared.question.LinkKind.{LinkKind}
use Rattle.connect_rules.specs.declared.question.LinkKind.TheVariants.{Connect, Disconnect}
use Rattle.read_rules.specs.declared.question.Kind.{Kind}
use Rattle.read_rules.specs.declared.question.Kind.TheVariants.{Attack, Defend}
use Rattle.sgf_rules.specs.declared.kind.FaultKind.{FaultKind}
use Rattle.sgf_rules.specs.Game.{game_of}
use Rattle.helpers.specs.HelperStates.{SlotState, after_off, after_remove}
use Rattle.helpers.specs.Agreement.{raised}
use Rattle.helpers.specs.Totals.{asks_over}
use Rattle.match_rules.specs.Conditions.{all_yes}
use Rattle.match_engine.specs.HelperCalls.{plays_of}
use Rattle.machine_rules.specs.Machine.{Machine, position_of}
use Rattle.machine_rules.specs.Matcher.{Matcher}
use Rattle.machine_rules.specs.Effects.{Excuse, Effect, refused, succeeded, growing, fallback, replied}
use Rattle.machine_rules.specs.Files.{Contents}
use Rattle.machine_rules.specs.Heard.{heard, bytes_in, word_at}
use Rattle.machine_rules.specs.BoardCommands.{resized, played, taken_back, of_stone}
use Rattle.machine_rules.specs.HelperCommands.{of_helper}
use Rattle.machine_rules.specs.LinkCommands.{linked}
use Rattle.machine_rules.specs.MatchingCommands.{after_asking, advised}
use Rattle.machine_rules.specs.ProofCommands.{proved}
use Rattle.machine_rules.specs.RecordCommands.{is_utf8, recorded, loaded, loaded_by}
use Rattle.machine_rules.specs.Step.{Input, effect_of, parsed_step, step_on, step}

-- a machine has no helpers
abbrev pub IsAlone : Machine → Type 0
IsAlone machine = machine.helpers ≡ []

-- no machine of these excuses has helpers
abbrev AreAlone : List Excuse → Type 0
AreAlone [] = Unit {0}
AreAlone (excuse ∷ excuses) = IsAlone excuse.next × AreAlone excuses

-- there are no helpers after what a command does, and none after its excuses
record LeavesNone (effect : Effect) : Type 0 where
  next : IsAlone effect.next
  excuses : AreAlone effect.excuses

-- nobody is asked where there is nobody
raised-none : (times : List ℕ → ℕ) (slots : List SlotState) → slots ≡ [] → raised times slots ≡ []
raised-none times slots none = subst (λ s. raised times s ≡ []) (sym none) refl

-- nobody is switched off
off-none : (name : List ℕ) (slots : List SlotState) → slots ≡ [] → after_off name slots ≡ []
off-none name slots none = subst (λ s. after_off name s ≡ []) (sym none) refl

-- nobody is taken out
remove-none : (name : List ℕ) (slots : List SlotState) → slots ≡ [] → after_remove name slots ≡ []
remove-none name slots none = subst (λ s. after_remove name s ≡ []) (sym none) refl

module _ (old : Machine) (none : IsAlone old) where
  -- a refusal
  refused-alone : (text : RefuseText) → LeavesNone (refused old text)
  refused-alone text = record { next = none; excuses = tt }

  -- a success
  succeeded-alone : (result : List ℕ) (next : Machine) → IsAlone next → LeavesNone (succeeded result next)
  succeeded-alone result next alone = record { next = alone; excuses = tt }

  -- a success that keeps the helpers
  kept-alone : (result : List ℕ) (next : Machine) → next.helpers ≡ old.helpers → LeavesNone (succeeded result next)
  kept-alone result next same = succeeded-alone result next (same ∙ none)

  -- a growing reply
  growing-alone : (effect : Effect) (next : Machine) → IsAlone next → LeavesNone effect
      → LeavesNone (growing next effect)
  growing-alone effect next alone leaves = record { next = leaves.next; excuses = (alone, leaves.excuses) }

  -- a growing success that keeps the helpers
  grown-alone : (result : List ℕ) (next : Machine) → next.helpers ≡ old.helpers
      → LeavesNone (growing old (succeeded result next))
  grown-alone result next same = growing-alone (succeeded result next) old none (kept-alone result next same)

  -- one of two
  cond-alone : (b : Bool) (x y : Effect) → LeavesNone x → LeavesNone y → LeavesNone (cond b x y)
  cond-alone true x y first second = first
  cond-alone false x y first second = second

  -- what is told of a stone
  stone-alone : (p : ℕ) (effect : Effect) → LeavesNone effect → LeavesNone (of_stone old p effect)
  stone-alone p effect leaves =
      cond-alone (is_stone (cell_at (position_of old).cells p)) effect (refused old VertexEmpty) leaves
      (refused-alone VertexEmpty)

  -- a new size
  resized-alone : (size : Option ℕ) → LeavesNone (resized old size)
  resized-alone None = refused-alone _
  resized-alone (Some n) = kept-alone [] _ refl

  -- a move taken back
  taken_back-alone : (moves : List Move) → LeavesNone (taken_back old moves)
  taken_back-alone [] = refused-alone _
  taken_back-alone (move ∷ moves) = kept-alone [] _ refl

  -- a move
  played-alone : (move : Move) → LeavesNone (played old move)
  played-alone move =
      cond-alone _ _ _ (cond-alone _ _ _ (refused-alone _) (grown-alone [] _ refl)) (refused-alone _)

  -- a game record, or its fault
  recorded-alone : (found : Result BoardState FaultKind) → LeavesNone (recorded old found)
  recorded-alone (Ok board) = kept-alone [] _ refl
  recorded-alone (Err kind) = refused-alone _

  -- a file that is loaded
  loaded_by-alone : (name file : List ℕ) → LeavesNone (loaded_by old name file)
  loaded_by-alone name file =
      let read = recorded-alone (game_of file) in
      let whole : LeavesNone (loaded old file) = record { next = read.next; excuses = (none, tt) } in
      growing-alone _ old none (cond-alone (is_utf8 name) _ _ whole (refused-alone _))

  -- a printed proof
  proved-alone : (kind : Kind) (p : ℕ) → LeavesNone (proved old kind p)
  proved-alone kind p =
      stone-alone p _ (growing-alone _ old none (cond-alone _ _ _ (kept-alone _ old refl) (refused-alone _)))

  -- a connection
  linked-alone : (kind : LinkKind) (a b : ℕ) → LeavesNone (linked old kind a b)
  linked-alone kind a b =
      stone-alone a _ (stone-alone b _ (cond-alone _ _ _ (kept-alone _ old refl) (refused-alone _)))

  -- what is done of a helper
  helper-alone : (name : List ℕ) (effect : Effect) → LeavesNone effect → LeavesNone (of_helper old name effect)
  helper-alone name effect leaves = growing-alone _ old none (cond-alone _ _ _ leaves (refused-alone _))

  module _ (matcher : Matcher) where
    -- the machine after its helpers were asked
    asking-alone : (friend : Colour) → IsAlone (after_asking matcher old friend)
    asking-alone friend =
        raised-none (asks_over old.helpers (plays_of matcher.patterns (matcher.matches all_yes old friend))
        (position_of old) friend) old.helpers none

    -- what helpers were asked for
    advised-alone : (friend : Colour) (result : List ℕ) (next : Machine) → IsAlone next
        → LeavesNone (advised old (after_asking matcher old friend) result next)
    advised-alone friend result next alone =
        growing-alone (growing (after_asking matcher old friend) (succeeded result next)) old none
        (growing-alone (succeeded result next) (after_asking matcher old friend) (asking-alone friend)
        (succeeded-alone result next alone))

    -- each command
    effect-alone : (input : Input) (c : Command) → LeavesNone (effect_of matcher old input c)
    effect-alone input command.ProtocolVersion = kept-alone _ old refl
    effect-alone input command.Name = kept-alone _ old refl
    effect-alone input command.Version = kept-alone _ old refl
    effect-alone input (command.KnownCommand known) = kept-alone _ old refl
    effect-alone input command.ListCommands = grown-alone _ old refl
    effect-alone input command.Quit = record { next = none; excuses = tt }
    effect-alone input (command.BoardSize size) = resized-alone size
    effect-alone input command.ClearBoard = kept-alone [] _ refl
    effect-alone input (command.Komi komi) = kept-alone [] _ refl
    effect-alone input command.GetKomi = kept-alone _ old refl
    effect-alone input (command.Play c at) = played-alone _
    effect-alone input command.Undo = taken_back-alone old.moves
    effect-alone input command.ShowBoard = grown-alone _ old refl
    effect-alone input (command.IsLegal c at) = kept-alone _ old refl
    effect-alone input (command.AllLegal c) = grown-alone _ old refl
    effect-alone input (command.CountLib p) = stone-alone p _ (kept-alone _ old refl)
    effect-alone input (command.FindLib p) = stone-alone p _ (grown-alone _ old refl)
    effect-alone input (command.Captures c) = kept-alone _ old refl
    effect-alone input (command.Attack p) = stone-alone p _ (kept-alone _ old refl)
    effect-alone input (command.Defend p) = stone-alone p _ (kept-alone _ old refl)
    effect-alone input (command.Depths plies wide) = kept-alone [] _ refl
    effect-alone input (command.MatchPatterns friend) = advised-alone friend _ _ (asking-alone friend)
    effect-alone input command.ListPatterns = grown-alone _ old refl
    effect-alone input (command.LoadSgf span) = loaded_by-alone (word_at input.line span) input.file
    effect-alone input (command.AttackProof p) = proved-alone Attack p
    effect-alone input (command.DefendProof p) = proved-alone Defend p
    effect-alone input (command.CheckProof attack p code span) = stone-alone p _ (kept-alone _ old refl)
    effect-alone input (command.Connect a b) = linked-alone Connect a b
    effect-alone input (command.Disconnect a b) = linked-alone Disconnect a b
    effect-alone input (command.GenMove friend) =
        cond-alone _ _ _ (refused-alone _) (advised-alone friend _ _ (asking-alone friend))
    effect-alone input (command.RegGenMove friend) = advised-alone friend _ _ (asking-alone friend)
    effect-alone input (command.HelperOff span) =
        helper-alone _ _ (succeeded-alone [] _ (off-none (word_at input.line span) old.helpers none))
    effect-alone input (command.HelperCalls span) = helper-alone _ _ (kept-alone _ old refl)
    effect-alone input (command.HelperDrop span) =
        helper-alone _ _ (succeeded-alone [] _ (remove-none (word_at input.line span) old.helpers none))

-- no machine of a step has helpers
record StepsAlone (given : Step Machine) : Type 0 where
  next : IsAlone given.next
  fallbacks : (out : List ℕ) (new : Machine) → IsOneOf given.fallbacks out new → IsAlone new

-- an excuse behind an id leaves no helpers
excused-alone : (id : Option ℕ) (excuses : List Excuse) (out : List ℕ) (new : Machine) → AreAlone excuses
    → IsOneOf (map (fallback id) excuses) out new → IsAlone new
excused-alone id [] out new alone one = absurd one
excused-alone id (excuse ∷ excuses) out new alone (inl this) = ap (λ m. m.helpers) this.1 ∙ alone.0
excused-alone id (excuse ∷ excuses) out new alone (inr later) = excused-alone id excuses out new alone.1 later

-- the reply to a command
replied-alone : (id : Option ℕ) (effect : Effect) → LeavesNone effect → StepsAlone (replied id effect)
replied-alone id effect leaves = record {
  next = leaves.next;
  fallbacks = λ out new one. excused-alone id effect.excuses out new leaves.excuses one;
}

-- the answer to what a line says
parsed_step-alone : (matcher : Matcher) (old : Machine) (input : Input) (p : Parsed) → IsAlone old
    → StepsAlone (parsed_step matcher old input p)
parsed_step-alone matcher old input parsed.Nothing none =
    record { next = none; fallbacks = λ out new one. absurd one }
parsed_step-alone matcher old input (parsed.Refused id text) none =
    replied-alone id (refused old text) (refused-alone old none text)
parsed_step-alone matcher old input (parsed.Command id c) none =
    replied-alone id (effect_of matcher old input c) (effect-alone old none matcher input c)

-- the answer to a line on a text
step_on-alone : (matcher : Matcher) (old : Machine) (file : List ℕ) (line : RawLine) → IsAlone old
    → StepsAlone (step_on matcher old file line)
unfolding step_on
step_on-alone matcher old file line none =
    parsed_step-alone matcher old (record { line = bytes_in line; file = file }) (heard old line) none

-- what a step may give has no helpers
may-alone : (given : Step Machine) (out : List ℕ) (new : Machine) (ends : Bool) → StepsAlone given
    → MayGive given out new ends → IsAlone new
may-alone given out new ends alone (inl reply) = ap (λ m. m.helpers) reply.1 ∙ alone.next
may-alone given out new ends alone (inr excuse) = alone.fallbacks out new excuse.0

-- a machine without helpers has none after it answered a line
pub answers-alone : (matcher : Matcher) (contents : Contents) (old : Machine) (line : RawLine) (out : List ℕ)
    (new : Machine) (ends : Bool) → IsAlone old
    → (given : Step Machine) × step matcher contents old line given × MayGive given out new ends → IsAlone new
answers-alone matcher contents old line out new ends none (given, (file, of, is), may) =
    may-alone given out new ends (subst StepsAlone (sym is) (step_on-alone matcher old file line none)) may
