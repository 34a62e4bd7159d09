-- What a run says with its counts says what it did without them: the clause `runs` follows from the clause `counted`.
use Rattle.std.proofs.Common.{ℕ, List, Option, arith}
use Rattle.read_rules.specs.declared.tree.Tree.{Tree}
use Rattle.helpers.specs.HelperStates.{SlotState}
use Rattle.machine_rules.specs.Files.{Contents}
use Rattle.run_notes.specs.Notes.{counts_line}
use Rattle.run_notes.specs.declared.notes.Counts.{Counts}
use Rattle.run_notes.specs.declared.notes.Sent.{Sent}
use Rattle.session.specs.CountedRuns.{ReachesPhaseCounted, RunsCountedIn}
use Rattle.session.specs.Ends.{Streams}
use Rattle.session.specs.Headline.{ReachesPhase, Outside, RunsIn}
use Rattle.session.specs.Outcomes.{Phase, NotTaken, NotOpened, Served}
use Rattle.session.specs.declared.outcome.Outcome.{Outcome}

-- how far a run came and what it counted says how far it came
came-plain : (tree : Tree) (helpers : List SlotState) (words : List (List ℕ)) (contents : Contents)
    (missed now : List (List ℕ)) (before after : Streams) (counts : Option Counts) (sent : Option Sent) (phase : Phase)
    → ReachesPhaseCounted tree helpers words contents missed now before after counts sent phase
    → ReachesPhase tree helpers words contents missed now before after (counts_line counts) sent phase
came-plain tree helpers words contents missed now before after counts sent NotTaken came = (came.0, came.1.untouched)
came-plain tree helpers words contents missed now before after counts sent (NotOpened error) came = grind arith
came-plain tree helpers words contents missed now before after counts sent (Served end) came = grind arith

-- what a run did and counted says what it did
pub runs-plain : (tree : Tree) (helpers : List SlotState) (words : List (List ℕ)) (before after : Outside)
    (outcome : Outcome) → RunsCountedIn tree helpers words before after outcome
    → RunsIn tree helpers words before after outcome
runs-plain tree helpers words before after outcome counted = grind (arith, came-plain)
