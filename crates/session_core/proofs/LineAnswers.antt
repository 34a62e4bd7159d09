-- A line is answered as what it says.
use Rattle.std.proofs.Common.{◌≡◌, ◌↔◌, ℕ, false, List, ◌++◌, Option, Result, Ok, Err, IfOk, IfErr}
use Rattle.std.proofs.Common.{refl, sym, subst, append-nil, arith}
use Rattle.gtp_rules.specs.Lines.{RawLine, Line, TooLong}
use Rattle.gtp_rules.specs.Transcript.{MayGive, MayAnswer}
use Rattle.gtp_cmd.specs.Replies.{refusal_text}
use Rattle.gtp_cmd.specs.Within.{SaysWithin, SaysWithinLine}
use Rattle.gtp_cmd.specs.declared.commands.Command.{Command}
use Rattle.gtp_cmd.specs.declared.commands.Parsed.{Parsed}
use Rattle.gtp_cmd.specs.declared.commands.Parsed.TheVariants as parsed
use Rattle.gtp_cmd.specs.declared.refusals.RefuseText.{RefuseText}
use Rattle.machine_rules.specs.Counting.{counted, is_read}
use Rattle.machine_rules.specs.Effects.{replied}
use Rattle.machine_rules.specs.Files.{Contents}
use Rattle.machine_rules.specs.Heard.{heard, bytes_in}
use Rattle.machine_rules.specs.LinkQuestions.{asks_link_of, asks_link_of_line}
use Rattle.machine_rules.specs.Loads.{parsed_load, load_in, missed_by, IsFileOf}
use Rattle.machine_rules.specs.Machine.{Machine}
use Rattle.machine_rules.specs.Questions.{asks_of, asks_of_parsed, asks_of_line}
use Rattle.machine_rules.specs.Calls.{AreSameButCalls}
use Rattle.machine_rules.specs.Soundness.{IsWithoutWords, IsRefusal}
use Rattle.machine_rules.specs.Step.{Input, step, step_on, effect_of}
use Rattle.machine_rules.specs.Matcher.{Matcher}
use Rattle.machine_rules.proofs.Soundness.{step-sound, read-heard, link-heard, some_file}
use Rattle.machine_rules.proofs.WordLines.{parsed_of-none, none-parsed_of}
use Rattle.session_core.specs.AfterLine.{ReadsAs}
use Rattle.session_core.specs.AskedLinks.{LinksAs, LinksNothing}
use Rattle.session_core.specs.LineAnswers.{AnswersParsed, AnswersLine}
use Rattle.session_core.specs.MatcherView.{MatcherView, matcher_of}
use Rattle.session_core.specs.Kept.{Kept, machine_of}
use Rattle.session_core.specs.Replies.{reply_bytes, reply_ends, reply_count}
use Rattle.session_core.specs.SlowLines.{command_of, IsLeft}
use Rattle.session_core.specs.declared.reply.Reply.{Reply}
use Rattle.session_core.specs.declared.reply.Reply.TheVariants as reply
use Rattle.session_core.specs.declared.slow.Slow.{Slow}
use Rattle.session_core.specs.declared.slow.Work.{Work}
use Rattle.session_core.proofs.LineLinks.{unasked-links}
use Rattle.session_core.proofs.RefusedLines.{link-not_refused, refused-same}

-- a line asks what it says
asks-heard : (m : Machine) (line : RawLine) → asks_of_line m line ≡ asks_of_parsed m (heard m line)
unfolding asks_of_line
asks-heard m TooLong = refl
asks-heard m (Line text) = refl

-- a line that says nothing is one without words
nothing-heard : (m : Machine) (line : RawLine) → (heard m line ≡ parsed.Nothing) ↔ IsWithoutWords line
nothing-heard m TooLong = ((λ e. cc), (λ none. absurd none))
nothing-heard m (Line text) = (parsed_of-none text m.base.size, none-parsed_of text m.base.size)

-- What a line says was answered, on a text that is the contents of the file that it loads.
module _ (matcher : Matcher) (contents : Contents) (old : Kept) (line : RawLine) (answer : Reply) (new : Kept)
    (file : List ℕ) (of : IsFileOf contents (parsed_load (bytes_in line) (heard (machine_of old) line)) file)
    (is : AnswersParsed matcher old (record { line = bytes_in line; file = file })
    (heard (machine_of old) line) answer new) where
  -- the step gives the reply
  line-reply : MayAnswer (step matcher contents) (machine_of old) line (reply_bytes answer) (machine_of new)
      (reply_ends answer)
  unfolding step_on load_in
  line-reply = (step_on matcher (machine_of old) file line, (file, of, refl), is.reply)

  -- the name that was missed is that of the line
  line-missed : new.missed ≡ old.missed ++ missed_by (load_in (machine_of old) line) (reply_bytes answer)
  unfolding load_in
  line-missed = is.missed

  -- a line asks of connections what it says
  line-links : LinksAs (asks_link_of_line (machine_of old) line) old.engine new.engine
  line-links = subst (λ a. LinksAs a old.engine new.engine) (sym (link-heard (machine_of old) line)) is.links

  -- The reply is a refusal.
  module _ (refusal : IsRefusal (reply_bytes answer)) where
    -- so the machine is as it was, but for the calls of helpers
    refused-machine : AreSameButCalls (machine_of old) (machine_of new)
    refused-machine =
        refused-same (machine_of old) line-reply.0 (reply_bytes answer) (machine_of new) (reply_ends answer)
        (step-sound matcher contents (machine_of old) line line-reply.0 line-reply.1) line-reply.2
        refusal

    -- nor does it ask about a connection
    refused-links : LinksNothing old.engine new.engine
    refused-links = grind (arith, unasked-links, line-links, link-not_refused, line-reply)

  -- the line was answered
  heard-answers : AnswersLine (step matcher contents) old line answer new
  heard-answers =
      grind (
        arith,
        line-reply,
        nothing-heard,
        read-heard,
        asks-heard,
        line-links,
        line-missed,
        refused-machine,
        refused-links,
      )

-- what says the same as a line answers it
pub answers-line : (matcher : Matcher) (contents : Contents) (old : Kept) (line : RawLine) (said : Parsed)
    (answer : Reply) (new : Kept) (file : List ℕ) → heard (machine_of old) line ≡ said
    → IsFileOf contents (parsed_load (bytes_in line) said) file
    → AnswersParsed matcher old (record { line = bytes_in line; file = file }) said answer new
    → AnswersLine (step matcher contents) old line answer new
answers-line matcher contents old line said answer new file same of is =
    grind (arith, heard-answers matcher contents old line answer new file)

-- what says the same as a line answers it, by bytes that are those of the line
pub answers-line-by : (matcher : Matcher) (contents : Contents) (old : Kept) (line : RawLine) (said : Parsed)
    (answer : Reply) (new : Kept) (bytes file : List ℕ) → bytes ≡ bytes_in line → heard (machine_of old) line ≡ said
    → IsFileOf contents (parsed_load bytes said) file
    → AnswersParsed matcher old (record { line = bytes; file = file }) said answer new
    → AnswersLine (step matcher contents) old line answer new
answers-line-by matcher contents old line said answer new bytes file are same of is =
    grind (arith, answers-line matcher contents old line said answer new file same)

-- no file of these contents says more of a line than one whose contents they are
abbrev pub file_for : Contents → List ℕ → Parsed → List ℕ
file_for contents bytes said = (some_file contents (parsed_load bytes said)).0

-- what says the same as a line, whatever a file holds, answers it
pub answers-line-at : (matcher : Matcher) (contents : Contents) (old : Kept) (line : RawLine) (said : Parsed)
    (answer : Reply) (new : Kept) (bytes : List ℕ) → bytes ≡ bytes_in line → heard (machine_of old) line ≡ said
    → AnswersParsed matcher old (record { line = bytes; file = file_for contents bytes said }) said answer new
    → AnswersLine (step matcher contents) old line answer new
answers-line-at matcher contents old line said answer new bytes are same is =
    answers-line-by matcher contents old line said answer new bytes (file_for contents bytes said) are same
    (some_file contents (parsed_load bytes said)).1 is

-- a session that a line left as it was, with its matcher, answers the line as it did before
pub answers-line-left : (now first : MatcherView) (contents : Contents) (mid old : Kept) (line : RawLine)
    (answer : Reply) (new : Kept) → now ≡ first → mid ≡ old
    → AnswersLine (step (matcher_of now) contents) mid line answer new
    → AnswersLine (step (matcher_of first) contents) old line answer new
answers-line-left now first contents mid old line answer new same left is = grind arith

-- nothing is answered to nothing
pub answers-nothing : (matcher : Matcher) (old : Kept) (input : Input)
    → AnswersParsed matcher old input parsed.Nothing reply.Nothing old
answers-nothing matcher old input = grind (arith, append-nil)

-- a line that is refused as it is read is answered so
pub answers-refused : (matcher : Matcher) (old : Kept) (input : Input) (id : Option ℕ) (text : RefuseText)
    → AnswersParsed matcher old input (parsed.Refused id text) (reply.Short (refusal_text id text) false) old
answers-refused matcher old input id text = grind (arith, append-nil)

-- a reply that has bytes is not nothing
some-reply : (answer : Reply) → reply_count (reply_bytes answer) ≡ 1 → answer ≡ reply.Nothing → ⊥
some-reply reply.Nothing one none = cc
some-reply (reply.Short text quit) one none = cc
some-reply (reply.Text bytes) one none = cc
some-reply (reply.NoMemory id) one none = cc

-- the reply to a command answers the line that says it
pub answers-command : (matcher : Matcher) (old : Kept) (input : Input) (said : Parsed) (id : Option ℕ)
    (command : Command) (answer : Reply) (new : Kept) → said ≡ parsed.Command id command
    → MayGive (replied id (effect_of matcher (machine_of old) input command)) (reply_bytes answer) (machine_of new)
    (reply_ends answer)
    → reply_count (reply_bytes answer) ≡ 1
    → new.engine.counts.readings ≡ counted old.engine.counts.readings (is_read (machine_of old) command)
    → ReadsAs (asks_of (machine_of old) command) old.engine new.engine
    → LinksAs (asks_link_of (machine_of old) command) old.engine new.engine
    → new.missed ≡ old.missed ++ missed_by (parsed_load input.line (parsed.Command id command)) (reply_bytes answer)
    → AnswersParsed matcher old input said answer new
answers-command matcher old input said id command answer new says is bytes readings read links missed =
    grind (arith, some-reply)

-- a command that may take long leaves its line
pub left-command : (old new : Kept) (line : List ℕ) (said : Parsed) (id : Option ℕ) (command : Command) (work : Work)
    → said ≡ parsed.Command id command → command ≡ command_of work → new ≡ old
    → SaysWithin old.engine.base.size said → SaysWithinLine line said
    → IsLeft old line said (record { id = id; work = work }) new
left-command old new line said id command work is asks same within spans = grind arith

-- a line that says the same was left
pub left-line : (old new : Kept) (bytes bytes' : List ℕ) (said said' : Parsed) (slow : Slow) → bytes ≡ bytes'
    → said ≡ said' → IsLeft old bytes said slow new → IsLeft old bytes' said' slow new
left-line old new bytes bytes' said said' slow are same left = grind arith

-- what holds of the value of a success follows from what does
pub if_ok_map : {T E : Type 0} {P Q : T → Type 0} (result : Result T E) → ((x : T) → P x → Q x) → IfOk result P
    → IfOk result Q
if_ok_map (Ok x) words p = words x p
if_ok_map (Err e) words p = tt

-- what holds of an error follows from what does
pub if_err_map : {T E : Type 0} {P Q : E → Type 0} (result : Result T E) → ((e : E) → P e → Q e) → IfErr result P
    → IfErr result Q
if_err_map (Ok x) words p = tt
if_err_map (Err e) words p = words e p
