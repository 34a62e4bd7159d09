use Rattle.std.proofs.Common.{refl}
use Rattle.read_proof.proofs.FirstLemmas.{first_complete, begins_with_first, words-back}
use Rattle.read_proof.proofs.TextLemmas.{first_text_proves}
use Rattle.read_proof.proofs.laws.first_proofs_prove.Goals as goal

-- by induction on the plies
pub returns-clause-node : goal.returns-clause-node
returns-clause-node c = λ n won node pos rest size on so. first_complete pos.size size n won node pos rest (refl, on) so

-- the first move of the side to play is the first word
pub returns-clause-first : goal.returns-clause-first
returns-clause-first c = begins_with_first

-- the play that takes back is the first word
pub returns-clause-back : goal.returns-clause-back
returns-clause-back c = words-back

-- under each code that the proof speaks of
pub returns-clause-text : goal.returns-clause-text
returns-clause-text c = λ q pos about size on. first_text_proves q pos size on about
