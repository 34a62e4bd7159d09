use Rattle.workload.proofs.LengthLemmas.{generated_length}
use Rattle.workload.proofs.laws.generated_lines_fit_the_input.Goals as goal

-- a line has at most 18 bytes, and there are at most 100,000 of them
pub returns : goal.returns
returns c = generated_length
