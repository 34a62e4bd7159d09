-- What an answered line leaves of a session.
use Rattle.std.specs.Prelude.{◌≡◌, ◌≢◌, ◌↔◌, ◌++◌}
use Rattle.gtp_rules.specs.Lines.{RawLine}
use Rattle.gtp_rules.specs.Steps.{Step}
use Rattle.gtp_rules.specs.Transcript.{MayGive, MayAnswer}
use Rattle.gtp_cmd.specs.declared.commands.Parsed.{Parsed}
use Rattle.gtp_cmd.specs.declared.commands.Parsed.TheVariants as parsed
use Rattle.machine_rules.specs.Calls.{AreSameButCalls}
use Rattle.machine_rules.specs.Counting.{counted, is_parsed_read, is_read_line}
use Rattle.machine_rules.specs.LinkQuestions.{asks_link_of_parsed, asks_link_of_line}
use Rattle.machine_rules.specs.Loads.{parsed_load, load_in, missed_by}
use Rattle.machine_rules.specs.Questions.{asks_of_parsed, asks_of_line}
use Rattle.machine_rules.specs.Machine.{Machine}
use Rattle.machine_rules.specs.Matcher.{Matcher}
use Rattle.machine_rules.specs.Soundness.{IsWithoutWords, IsRefusal}
use Rattle.machine_rules.specs.Step.{Input, parsed_step}
use Rattle.session_core.specs.Kept.{Kept, machine_of}
use Rattle.session_core.specs.AfterLine.{ReadsAs, KeepsCounts, HasFewFresh}
use Rattle.session_core.specs.AskedLinks.{LinksAs, LinksNothing}
use Rattle.session_core.specs.Replies.{reply_bytes, reply_ends, reply_count}
use Rattle.session_core.specs.declared.reply.Reply.{Reply}
use Rattle.session_core.specs.declared.reply.Reply.TheVariants as replies

-- The session that kept `old` answers a parsed line by a matcher and keeps `new`; `input` is the line's bytes and its
-- file's text.
pub record AnswersParsed (matcher : Matcher) (old : Kept) (input : Input) (said : Parsed) (answer : Reply)
    (new : Kept) : Type 0 where
  pub reply : MayGive (parsed_step matcher (machine_of old) input said) (reply_bytes answer) (machine_of new)
      (reply_ends answer)
  pub nothing : (answer ≡ replies.Nothing) ↔ (said ≡ parsed.Nothing)
  pub bytes : answer ≢ replies.Nothing → reply_count (reply_bytes answer) ≡ 1
  pub readings : new.engine.counts.readings
      ≡ counted old.engine.counts.readings (is_parsed_read (machine_of old) said)
  pub read : ReadsAs (asks_of_parsed (machine_of old) said) old.engine new.engine
  pub links : LinksAs (asks_link_of_parsed (machine_of old) said) old.engine new.engine
  pub missed : new.missed ≡ old.missed ++ missed_by (parsed_load input.line said) (reply_bytes answer)

-- how machines may answer a line: of a machine, a line and an answer, whether it may answer the line so
abbrev pub LineStep : Type 1
LineStep = Machine → RawLine → Step Machine → Type 0

-- The session that kept `old` answers a line by this step of its machine and keeps `new`.
pub record AnswersLine (step : LineStep) (old : Kept) (line : RawLine) (answer : Reply) (new : Kept) : Type 0 where
  -- the reply is one that the step gives
  pub reply : MayAnswer step (machine_of old) line (reply_bytes answer) (machine_of new) (reply_ends answer)
  -- the reply is `Nothing` exactly if the line has no words
  pub nothing : (answer ≡ replies.Nothing) ↔ IsWithoutWords line
  pub bytes : answer ≢ replies.Nothing → reply_count (reply_bytes answer) ≡ 1
  -- a line that asks for a reading and is answered with a code is counted
  pub readings : new.engine.counts.readings ≡ counted old.engine.counts.readings (is_read_line (machine_of old) line)
  -- a line that asks for a reading makes one, which is cached or fresh; a line that asks for matches may make any
  -- number; no other line makes one
  pub read : ReadsAs (asks_of_line (machine_of old) line) old.engine new.engine
  -- a line that asks about two stones of one colour asks the connections once, and is counted; no other line asks them
  pub links : LinksAs (asks_link_of_line (machine_of old) line) old.engine new.engine
  -- the file that could not be loaded is noted as missed, and no other name is
  pub missed : new.missed ≡ old.missed ++ missed_by (load_in (machine_of old) line) (reply_bytes answer)
  pub few_fresh : HasFewFresh old.engine.counts → HasFewFresh new.engine.counts
  -- a refused line keeps the machine, but for the calls of helpers if memory ran out; of the counts only that of
  -- readings that could not be cached may have risen
  pub refused : IsRefusal (reply_bytes answer)
      → AreSameButCalls (machine_of old) (machine_of new) × KeepsCounts old.engine new.engine
      × LinksNothing old.engine new.engine
