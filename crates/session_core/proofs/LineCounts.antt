-- What a line counts, by what it asks of the readings.
use Rattle.std.proofs.Common.{◌≡◌, Bool, true, false, cond, arith}
use Rattle.std.specs.Option.{is_some}
use Rattle.gtp_rules.specs.Lines.{RawLine, Line, TooLong}
use Rattle.gtp_cmd.specs.declared.commands.Command.{Command}
use Rattle.gtp_cmd.specs.declared.commands.Command.TheVariants as command
use Rattle.gtp_cmd.specs.declared.commands.Parsed.{Parsed}
use Rattle.gtp_cmd.specs.declared.commands.Parsed.TheVariants as parsed
use Rattle.read_rules.specs.declared.question.Kind.TheVariants.{Attack, Defend}
use Rattle.match_engine.specs.declared.keys.Key.{Key}
use Rattle.machine_rules.specs.Machine.{Machine}
use Rattle.session_core.specs.EngineView.{EngineView}
use Rattle.machine_rules.specs.Counting.{counted, is_read, is_parsed_read, is_read_line}
use Rattle.machine_rules.specs.ChoiceCommands.{is_full}
use Rattle.machine_rules.specs.Questions.{Nothing, One, Many}
use Rattle.session_core.specs.AfterLine.{ReadsAs, ReadsNothing, KeepsCounts}
use Rattle.machine_rules.specs.Questions.{asks_of, asks_of_parsed, asks_of_line}
use Rattle.session_core.specs.AfterLine.{HasFewFresh}

module _ (old new : EngineView) where
  -- no reading was made, and so the counts are as before
  nothing-kept : ReadsNothing old new → KeepsCounts old new
  nothing-kept none = grind arith

  -- with counts as before no more are fresh than were counted
  few-kept : KeepsCounts old new → HasFewFresh old.counts → HasFewFresh new.counts
  few-kept kept few = grind arith

  -- matches were asked for, or the list of moves is full
  full-kept : (full : Bool) → ReadsAs (cond full Nothing Many) old new → KeepsCounts old new
  full-kept true read = nothing-kept read
  full-kept false read = read.counts

  -- one reading was counted, and at most one that was fresh
  few-once : (fresh : Bool) → new.counts.readings ≡ counted old.counts.readings true
      → new.counts.fresh ≡ counted old.counts.fresh fresh
      → HasFewFresh old.counts → HasFewFresh new.counts
  few-once true readings freshly few = grind arith
  few-once false readings freshly few = grind arith

  module _ (key : Key) where
    -- a question about a point, with a stone or empty, still leaves no more fresh readings than were counted
    at-few : (stone : Bool) → new.counts.readings ≡ counted old.counts.readings stone
        → ReadsAs (cond stone (One key) Nothing) old new
        → HasFewFresh old.counts → HasFewFresh new.counts
    at-few true readings read few = few-once (is_some new.readings.last) readings read.fresh few
    at-few false readings read few = few-kept (nothing-kept read) few

  module _ (machine : Machine) where
    -- no command leaves more that are fresh than were counted
    few_fresh-command : (c : Command) → new.counts.readings ≡ counted old.counts.readings (is_read machine c)
        → ReadsAs (asks_of machine c) old new
        → HasFewFresh old.counts → HasFewFresh new.counts
    few_fresh-command (command.Attack p) readings read few = grind (arith, at-few)
    few_fresh-command (command.Defend p) readings read few = grind (arith, at-few)
    few_fresh-command (command.MatchPatterns friend) readings read few = few-kept read.counts few
    few_fresh-command (command.GenMove friend) readings read few = few-kept (full-kept (is_full machine) read) few
    few_fresh-command (command.RegGenMove friend) readings read few = few-kept read.counts few
    few_fresh-command _ readings read few = few-kept (nothing-kept read) few

    -- whatever a line says, a command or not, still no more readings are fresh than were counted
    few_fresh-parsed : (p : Parsed) → new.counts.readings ≡ counted old.counts.readings (is_parsed_read machine p)
        → ReadsAs (asks_of_parsed machine p) old new
        → HasFewFresh old.counts → HasFewFresh new.counts
    few_fresh-parsed (parsed.Command id c) readings read few = few_fresh-command c readings read few
    few_fresh-parsed _ readings read few = few-kept (nothing-kept read) few

-- after any line, too long or not, still no more readings are fresh than the session counted
pub few_fresh-line : (machine : Machine) (line : RawLine) (old new : EngineView)
    → new.counts.readings ≡ counted old.counts.readings (is_read_line machine line)
    → ReadsAs (asks_of_line machine line) old new → HasFewFresh old.counts → HasFewFresh new.counts
unfolding asks_of_line is_read_line
few_fresh-line machine TooLong old new readings read few = few-kept old new (nothing-kept old new read) few
few_fresh-line machine (Line text) old new readings read few = grind (arith, few_fresh-parsed)
