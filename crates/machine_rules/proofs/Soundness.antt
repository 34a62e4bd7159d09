-- What every step keeps: a refused line keeps the machine, what may stand in place of a reply is a refusal that keeps
-- it but for the calls of helpers, and only a success ends the session.
use Rattle.std.proofs.Common.{◌≡◌, ℕ, Bool, true, false, cond, List, [], ◌∷◌, map, Option, None, Some, Result, Ok, Err}
use Rattle.std.proofs.Common.{arith, refl, sym, ap, subst, ◌∙◌, ◌&&◌}
use Rattle.gtp_rules.specs.Lines.{RawLine, Line, TooLong}
use Rattle.gtp_rules.specs.Steps.{Step}
use Rattle.gtp_rules.specs.Transcript.{IsTotal}
use Rattle.go_rules.specs.declared.Move.{Move}
use Rattle.gtp_cmd.specs.declared.commands.Parsed.{Parsed}
use Rattle.gtp_cmd.specs.declared.commands.Parsed.TheVariants as parsed
use Rattle.gtp_cmd.specs.declared.refusals.RefuseText.{RefuseText}
use Rattle.machine_rules.specs.Machine.{Machine}
use Rattle.machine_rules.specs.Matcher.{Matcher}
use Rattle.machine_rules.specs.Calls.{AreSameButCalls}
use Rattle.machine_rules.specs.Effects.{Excuse, Effect, refused, succeeded, fallback, replied}
use Rattle.machine_rules.specs.Files.{Contents, IsContents}
use Rattle.machine_rules.specs.Heard.{heard, bytes_in}
use Rattle.machine_rules.specs.LinkCommands.{linked, linkage_at, linkage_text}
use Rattle.machine_rules.specs.LinkQuestions.{have_one_colour, asks_link_at, asks_link_of, asks_link_of_parsed}
use Rattle.machine_rules.specs.LinkQuestions.{asks_link_of_line}
use Rattle.connect_rules.specs.declared.question.LinkQuestion.{LinkQuestion}
use Rattle.machine_rules.specs.RecordCommands.{recorded}
use Rattle.sgf_rules.specs.declared.kind.FaultKind.{FaultKind}
use Rattle.connect_rules.specs.declared.question.LinkKind.{LinkKind}
use Rattle.connect_rules.specs.declared.question.LinkKind.TheVariants.{Connect, Disconnect}
use Rattle.go_rules.specs.Position.{BoardState}
use Rattle.machine_rules.specs.Loads.{Load, load_in, IsFileOf}
use Rattle.machine_rules.specs.BoardCommands.{resized, taken_back}
use Rattle.machine_rules.specs.Step.{Input, effect_of, parsed_step, step_on, step}
use Rattle.machine_rules.specs.Counting.{is_parsed_read, is_read_line}
use Rattle.machine_rules.specs.Soundness.{IsRefusal, IsSuccess, AreExcuses, IsSound}
use Rattle.machine_rules.proofs.QuietHelpers.{raised-quiet}
use Rattle.gtp_cmd.specs.declared.commands.Command.{Command}
use Rattle.gtp_cmd.specs.declared.commands.Command.TheVariants as command
use Rattle.read_rules.specs.declared.question.Kind.TheVariants.{Attack, Defend}

-- a success is no refusal
pub success_apart : (bytes more : List ℕ) → bytes ≡ 61 ∷ more → IsRefusal bytes → ⊥
success_apart bytes more success refusal = grind arith

-- each of these excuses leaves the machine as it was, but for the calls of helpers
abbrev KeepMachine : Machine → List Excuse → Type 0
KeepMachine old [] = Unit {0}
KeepMachine old (excuse ∷ excuses) = AreSameButCalls old excuse.next × KeepMachine old excuses

-- A command that is refused or ends the session keeps the machine, and the excuses of a command keep it, but for the
-- calls of helpers.
record IsKind (old : Machine) (effect : Effect) : Type 0 where
  refused : (text : RefuseText) → effect.refusal ≡ Some text → effect.next ≡ old
  excuses : KeepMachine old effect.excuses
  ended : effect.ends ≡ true → (effect.refusal ≡ None) × (effect.next ≡ old)

module _ (old : Machine) where
  -- a refusal
  refused-kind : (text : RefuseText) → IsKind old (refused old text)
  refused-kind text = grind arith

  -- a success
  succeeded-kind : (result : List ℕ) (next : Machine) → IsKind old (succeeded result next)
  succeeded-kind result next = grind arith

  -- one of two
  cond-kind : (b : Bool) (x y : Effect) → IsKind old x → IsKind old y → IsKind old (cond b x y)
  cond-kind true x y first second = first
  cond-kind false x y first second = second

  -- a new size
  resized-kind : (size : Option ℕ) → IsKind old (resized old size)
  resized-kind None = refused-kind _
  resized-kind (Some n) = succeeded-kind [] _

  -- a move taken back
  taken_back-kind : (moves : List Move) → IsKind old (taken_back old moves)
  taken_back-kind [] = refused-kind _
  taken_back-kind (move ∷ moves) = succeeded-kind [] _

  -- a game record, or its fault
  recorded-kind : (found : Result BoardState FaultKind) → IsKind old (recorded old found)
  recorded-kind (Ok board) = succeeded-kind [] _
  recorded-kind (Err kind) = refused-kind _

  module _ (matcher : Matcher) where
    -- each command
    effect-kind : (input : Input) (c : Command) → IsKind old (effect_of matcher old input c)
    effect-kind input command.ProtocolVersion = succeeded-kind _ old
    effect-kind input command.Name = succeeded-kind _ old
    effect-kind input command.Version = succeeded-kind _ old
    effect-kind input (command.KnownCommand known) = succeeded-kind _ old
    effect-kind input command.ListCommands = grind (arith, succeeded-kind)
    effect-kind input command.Quit = grind arith
    effect-kind input (command.BoardSize size) = resized-kind size
    effect-kind input command.ClearBoard = succeeded-kind [] _
    effect-kind input (command.Komi komi) = succeeded-kind [] _
    effect-kind input command.GetKomi = succeeded-kind _ old
    effect-kind input (command.Play c at) = grind (arith, cond-kind, refused-kind, succeeded-kind)
    effect-kind input command.Undo = taken_back-kind old.moves
    effect-kind input command.ShowBoard = grind (arith, succeeded-kind)
    effect-kind input (command.IsLegal c at) = succeeded-kind _ old
    effect-kind input (command.AllLegal c) = grind (arith, succeeded-kind)
    effect-kind input (command.CountLib p) = grind (arith, cond-kind, refused-kind, succeeded-kind)
    effect-kind input (command.FindLib p) = grind (arith, cond-kind, refused-kind, succeeded-kind)
    effect-kind input (command.Captures c) = succeeded-kind _ old
    effect-kind input (command.Attack p) = grind (arith, cond-kind, refused-kind, succeeded-kind)
    effect-kind input (command.Defend p) = grind (arith, cond-kind, refused-kind, succeeded-kind)
    effect-kind input (command.Depths plies wide) = succeeded-kind [] _
    effect-kind input (command.MatchPatterns friend) = grind (arith, raised-quiet, succeeded-kind)
    effect-kind input command.ListPatterns = grind (arith, succeeded-kind)
    effect-kind input (command.LoadSgf span) = grind (arith, recorded-kind, cond-kind, refused-kind)
    effect-kind input (command.AttackProof p) = grind (arith, cond-kind, refused-kind, succeeded-kind)
    effect-kind input (command.DefendProof p) = grind (arith, cond-kind, refused-kind, succeeded-kind)
    effect-kind input (command.CheckProof attack p code span) = grind (arith, cond-kind, refused-kind, succeeded-kind)
    effect-kind input (command.Connect a b) = grind (arith, cond-kind, refused-kind, succeeded-kind)
    effect-kind input (command.Disconnect a b) = grind (arith, cond-kind, refused-kind, succeeded-kind)
    effect-kind input (command.GenMove friend) = grind (arith, cond-kind, refused-kind, raised-quiet, succeeded-kind)
    effect-kind input (command.RegGenMove friend) = grind (arith, raised-quiet, succeeded-kind)
    effect-kind input (command.HelperOff span) = grind (arith, cond-kind, refused-kind, succeeded-kind)
    effect-kind input (command.HelperCalls span) = grind (arith, cond-kind, refused-kind, succeeded-kind)
    effect-kind input (command.HelperDrop span) = grind (arith, cond-kind, refused-kind, succeeded-kind)

-- the excuses behind an id are refusals that keep the machine so
excuses-succeeded : (old : Machine) (id : Option ℕ) (excuses : List Excuse) → KeepMachine old excuses
    → AreExcuses old (map (fallback id) excuses)
excuses-succeeded old id [] kept = tt
excuses-succeeded old id (excuse ∷ excuses) kept = ((_, refl), kept.0, excuses-succeeded old id excuses kept.1)

-- a refusal behind an id keeps the machine
refusal-kept : (old : Machine) (id : Option ℕ) (refusal : Option RefuseText) (effect : Effect) → IsKind old effect
    → effect.refusal ≡ refusal → IsRefusal (replied id effect).reply → effect.next ≡ old
refusal-kept old id None effect kind is reply = grind (arith, success_apart)
refusal-kept old id (Some text) effect kind is reply = kind.refused text is

-- the reply to a command, by what it does
replied-sound : (old : Machine) (id : Option ℕ) (effect : Effect) → IsKind old effect
    → IsSound old (replied id effect)
replied-sound old id effect kind = record {
  refused = refusal-kept old id effect.refusal effect kind refl;
  excuses = excuses-succeeded old id effect.excuses kind.excuses;
  ended = λ ends. (
    subst (λ r. IsSuccess (replied id (record effect { refusal = r })).reply)
        (sym (kind.ended ends).0) (_, refl),
    (kind.ended ends).1,
  );
}

-- the answer to what a line says
parsed_step-sound : (matcher : Matcher) (old : Machine) (input : Input) (p : Parsed)
    → IsSound old (parsed_step matcher old input p)
parsed_step-sound matcher old input parsed.Nothing = grind arith
parsed_step-sound matcher old input (parsed.Refused id text) = grind (arith, replied-sound, refused-kind)
parsed_step-sound matcher old input (parsed.Command id c) =
    replied-sound old id (effect_of matcher old input c) (effect-kind old matcher input c)

-- the answer to a line on a text
step_on-sound : (matcher : Matcher) (old : Machine) (file : List ℕ) (line : RawLine)
    → IsSound old (step_on matcher old file line)
unfolding step_on
step_on-sound matcher old file line = grind (arith, parsed_step-sound)

-- every step
pub step-sound : (matcher : Matcher) (contents : Contents) (old : Machine) (line : RawLine) (given : Step Machine)
    → step matcher contents old line given → IsSound old given
step-sound matcher contents old line given (file, of, is) = grind (arith, step_on-sound)

-- a text that a file may have whose contents are these, where they are told
some_text : (told : Option (List ℕ)) → (file : List ℕ) × IsContents told file
some_text None = ([], tt)
some_text (Some text) = (text, refl)

-- a text for what is loaded, if anything is
pub some_file : (contents : Contents) (load : Option Load) → (file : List ℕ) × IsFileOf contents load file
some_file contents None = ([], tt)
some_file contents (Some load) = some_text (contents load.name)

-- something is given for each line
pub step-total : (matcher : Matcher) (contents : Contents) → IsTotal (step matcher contents)
step-total matcher contents old line =
    let file = some_file contents (load_in old line) in
    (step_on matcher old file.0 line, (file.0, file.1, refl))

-- a line is counted as what it says
pub read-heard : (m : Machine) (line : RawLine) → is_read_line m line ≡ is_parsed_read m (heard m line)
unfolding is_read_line
read-heard m TooLong = refl
read-heard m (Line text) = refl

-- what is tested one after another passes where all of it does
all-pass : {T : Type 0} (a b c : Bool) (kept first second third : T) → (a && (b && c)) ≡ true
    → cond a (cond b (cond c kept third) second) first ≡ kept
all-pass true true true kept first second third pass = refl
all-pass true true false kept first second third pass = absurd (let same : false ≡ true = pass in cc)
all-pass true false c kept first second third pass = absurd (let same : false ≡ true = pass in cc)
all-pass false b c kept first second third pass = absurd (let same : false ≡ true = pass in cc)

-- what is found under a test passed it
was-passed : {T : Type 0} (pass : Bool) (x y : T) → cond pass (Some x) None ≡ Some y → pass ≡ true
was-passed true x y is = refl
was-passed false x y is = absurd (let none : None ≡ Some y = is in cc)

-- a question about two stones of one colour is answered with a result, which has no excuse
pub linked-succeeded : (old : Machine) (kind : LinkKind) (a b : ℕ) → have_one_colour old a b ≡ true
    → linked old kind a b ≡ succeeded (linkage_text old.base.size (linkage_at old kind a b)) old
linked-succeeded old kind a b one = grind (arith, all-pass)

-- a question about a connection that is asked is answered with some text, and the machine stays
link-at : (old : Machine) (kind : LinkKind) (a b : ℕ) (q : LinkQuestion) → asks_link_at old kind a b ≡ Some q
    → (text : List ℕ) × (linked old kind a b ≡ succeeded text old)
link-at old kind a b q asks = (_, linked-succeeded old kind a b (was-passed (have_one_colour old a b) _ q asks))

-- a command that asks about a connection tells something
link-effect : (matcher : Matcher) (old : Machine) (input : Input) (c : Command) (q : LinkQuestion)
    → asks_link_of old c ≡ Some q → (text : List ℕ) × (effect_of matcher old input c ≡ succeeded text old)
link-effect matcher old input (command.Connect a b) q asks = link-at old Connect a b q asks
link-effect matcher old input (command.Disconnect a b) q asks = link-at old Disconnect a b q asks
link-effect matcher old input _ q none = absurd (let same : None ≡ Some q = none in cc)

-- so does what a line says that asks about one
link-parsed : (matcher : Matcher) (old : Machine) (input : Input) (p : Parsed) (q : LinkQuestion)
    → asks_link_of_parsed old p ≡ Some q
    → (id : Option ℕ) × (text : List ℕ) × (parsed_step matcher old input p ≡ replied id (succeeded text old))
link-parsed matcher old input (parsed.Command id c) q asks =
    let said = link-effect matcher old input c q asks in (id, said.0, ap (replied id) said.1)
link-parsed matcher old input _ q none = absurd (let same : None ≡ Some q = none in cc)

-- a line asks about a connection what it says
pub link-heard : (m : Machine) (line : RawLine) → asks_link_of_line m line ≡ asks_link_of_parsed m (heard m line)
unfolding asks_link_of_line
link-heard m TooLong = refl
link-heard m (Line text) = refl

-- the line on a text
link-line_on : (matcher : Matcher) (old : Machine) (file : List ℕ) (line : RawLine) (q : LinkQuestion)
    → asks_link_of_line old line ≡ Some q
    → (id : Option ℕ) × (text : List ℕ) × (step_on matcher old file line ≡ replied id (succeeded text old))
unfolding step_on
link-line_on matcher old file line q asks =
    link-parsed matcher old (record { line = bytes_in line; file = file }) (heard old line) q
    (sym (link-heard old line) ∙ asks)

-- a line that asks about a connection is told some text, and the machine stays
pub link-line : (matcher : Matcher) (contents : Contents) (old : Machine) (line : RawLine) (given : Step Machine)
    → step matcher contents old line given → (q : LinkQuestion) → asks_link_of_line old line ≡ Some q
    → (id : Option ℕ) × (text : List ℕ) × (given ≡ replied id (succeeded text old))
link-line matcher contents old line given (file, of, is) q asks =
    let said = link-line_on matcher old file line q asks in (said.0, said.1, is ∙ said.2)
