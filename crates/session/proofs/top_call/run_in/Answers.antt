-- What the run but for its notes did and counted, and what the notes got.
use Rattle.std.proofs.Common.{arith}
use Rattle.session.proofs.PlainRuns.{runs-plain}
use Rattle.session.proofs.top_call.run_in.Goals as goal

-- what the run did and counted says what it did
pub returns-clause-runs : goal.returns-clause-runs
returns-clause-runs g c = grind (arith, runs-plain)
