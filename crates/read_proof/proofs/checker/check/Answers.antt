use Rattle.std.proofs.Common.{arith}
use Rattle.read_proof.proofs.CodeLemmas.{code_sound, none_gives}
use Rattle.read_proof.proofs.QuestionLemmas.{about_asked}
use Rattle.read_proof.proofs.checker.check.Goals as goal

-- no word is left, so the text is a proof, and what is proved is so
pub returns-in-Some-clause-sound : goal.returns-in-Some-clause-sound
returns-in-Some-clause-sound c = grind (arith, none_gives, code_sound, about_asked)
