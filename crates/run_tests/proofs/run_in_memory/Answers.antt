-- The feed tells what it has left, and the page what it holds.
use Rattle.session.specs.Outcomes.{phase_of}
use Rattle.run_tests.proofs.StreamContents.{told}
use Rattle.run_tests.proofs.run_in_memory.Goals as goal

-- what a run says of its streams holds of the feed and the page
pub returns : goal.returns
returns g c =
    let runs = c.run.ensures.runs in
    told _ _ _ _ _ _ _ _ _ _ _ _ _ _ _ runs.counts runs.sent (phase_of c.run.result) runs.came
