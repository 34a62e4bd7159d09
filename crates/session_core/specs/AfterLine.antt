-- What a session has read and counted after a line.
use Rattle.machine_rules.specs.Questions.{Asks, Nothing, One, Many, asks_of_line}
use Rattle.std.specs.Prelude.{◌≡◌, ℕ, ◌^◌, ◌<◌, ◌≤◌, ◌++◌, Option, Some, None}
use Rattle.std.specs.Option.{is_some}
use Rattle.go_rules.specs.Position.{IsPosition}
use Rattle.match_engine.specs.declared.keys.Key.{Key}
use Rattle.read_cache.specs.Kept.{HoldsOfEach}
use Rattle.read_cache.specs.Keeping.{raised}
use Rattle.match_engine.specs.Readings.{HasRead, Rests}
use Rattle.machine_rules.specs.Machine.{Machine}
use Rattle.session_core.specs.EngineView.{EngineView, board_of, no_links}
use Rattle.session_core.specs.AskedLinks.{LinksAs}
use Rattle.machine_rules.specs.LinkQuestions.{asks_link_of_line}
use Rattle.session_core.specs.Kept.{Kept, machine_of}
use Rattle.machine_rules.specs.Loads.{missed_in}
use Rattle.machine_rules.specs.Counting.{counted, is_read_line}
use Rattle.machine_rules.specs.AnsweredLines.{AnsweredLine}
use Rattle.read_rules.specs.declared.question.Answer.{Answer}
use Rattle.run_notes.specs.declared.notes.Counts.{Counts}

-- the counts of readings alone: the counts of connections are set to 0
abbrev pub of_readings : Counts → Counts
of_readings counts = record counts { links = no_links }

-- the counts of readings stay, but readings that could not be cached may be more
pub record KeepsCounts (old new : EngineView) : Type 0 where
  pub readings : new.counts.readings ≡ old.counts.readings
  pub fresh : new.counts.fresh ≡ old.counts.fresh
  pub trials : new.counts.trials ≡ old.counts.trials
  pub refused : old.counts.refused ≤ new.counts.refused

-- a count raised by the trial plays of a reading, if it was fresh
abbrev pub after_trials : ℕ → Option ℕ → ℕ
after_trials count None = count
after_trials count (Some n) = raised count n

-- the session counts as many readings that could not be cached as its readings do
abbrev pub CountsRefused : EngineView → Type 0
CountsRefused session = session.counts.refused ≡ session.readings.answers.refused

-- This question was read once. The reading counts as fresh, with its trial plays, exactly if the readings say so. The
-- board is a position, and each cached answer rests on its facts.
pub record ReadsOnce (key : Key) (old new : EngineView) : Type 0 where
  pub answer : Answer
  pub read : HasRead key (board_of old) answer old.readings new.readings
  pub board : IsPosition (board_of old)
  pub rest : HoldsOfEach Rests new.readings.answers.kept
  pub refused_before : CountsRefused old
  pub refused : CountsRefused new
  pub fresh : new.counts.fresh ≡ counted old.counts.fresh (is_some new.readings.last)
  pub trials : new.counts.trials ≡ after_trials old.counts.trials new.readings.last

-- Any number of readings was made for patterns; none of them counts as the reading of a line. As many questions may be
-- cached as before.
pub record ReadsMany (old new : EngineView) : Type 0 where
  pub counts : KeepsCounts old new
  pub capacity : new.readings.answers.kept.1 ≡ old.readings.answers.kept.1

-- no reading was made, and the cache stays
pub record ReadsNothing (old new : EngineView) : Type 0 where
  pub counts : of_readings new.counts ≡ of_readings old.counts
  pub kept : new.readings.answers.kept ≡ old.readings.answers.kept

-- `new` is `old` after the readings that were asked for
abbrev pub ReadsAs : Asks → EngineView → EngineView → Type 0
ReadsAs Nothing old new = ReadsNothing old new
ReadsAs (One key) old new = ReadsOnce key old new
ReadsAs Many old new = ReadsMany old new

-- A session that keeps `old` keeps `new` after a line that came to its machine. The line is counted if it asks for a
-- reading and is answered with a code; what it asks was read, of connections too; and the file that it could not load
-- is noted as missed.
pub record IsAfterLine (old : Kept) (turn : AnsweredLine Machine) (new : Kept) : Type 0 where
  pub machine : turn.machine ≡ machine_of old
  pub readings : new.engine.counts.readings
      ≡ counted old.engine.counts.readings (is_read_line turn.machine turn.line)
  pub read : ReadsAs (asks_of_line turn.machine turn.line) old.engine new.engine
  pub links : LinksAs (asks_link_of_line turn.machine turn.line) old.engine new.engine
  pub missed : new.missed ≡ old.missed ++ missed_in turn

-- at most as many readings were made afresh as were counted, and a u64 holds that count
pub record HasFewFresh (counts : Counts) : Type 0 where
  pub few : counts.fresh ≤ counts.readings
  pub small : counts.readings < 2 ^ 64
