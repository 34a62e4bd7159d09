use Rattle.std.proofs.Common.{arith}
use Rattle.read_proof.proofs.QuestionLemmas.{question_is}
use Rattle.read_proof.proofs.codes.question_on.Goals as goal

-- the question has these parts
pub returns : goal.returns
returns c = grind (arith, question_is)
