-- The checker says true exactly if the words are a proof.
use Rattle.sure_lines.proofs.ProofAnswers.{is_whole-test}
use Rattle.sure_lines.proofs.proof_commands.is_proof.Goals as goal

-- no word is left behind it
pub returns : goal.returns
returns c = is_whole-test c.checks_surely.result _ c.checks_surely.ensures.proof
