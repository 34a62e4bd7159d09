use Rattle.dfa_match.proofs.StepLists.{AreStepsBelow}
use Rattle.dfa_match.proofs.steps.all_steps.Given as goal

-- the steps of the transformations before were added
abbrev pub invariant-transforms : goal.invariant-transforms
invariant-transforms l = record {
  added : AreStepsBelow l.n l.steps.items;
}
