use Rattle.std.proofs.Common.{◌+◌, arith}
use Rattle.std.proofs.lemmas.Bool.{false≢true}
use Rattle.dfa_match.proofs.StepLists.{steps_below_more}
use Rattle.dfa_match.proofs.steps.all_steps.Goals.{in-Some+in_ok-add_steps}
use Rattle.dfa_match.proofs.steps.all_steps.Goals as goal

-- the steps of one transformation more were added
pub transforms-preserved : goal.transforms-preserved
transforms-preserved c = grind (arith, in-Some+in_ok-add_steps, steps_below_more c.transforms.n, false≢true)
